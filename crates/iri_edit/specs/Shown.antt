-- What a text with a hidden password is shown as.
use Rattle.std.specs.Prelude.{◌≡◌, ℕ, List, Option, Some, None}
use Rattle.iri_edit.specs.Password.{with_password}
use Rattle.iri_edit.specs.declared.password.PasswordMasked.{PasswordMasked}
use Rattle.iri_edit.specs.declared.password.PasswordReplaced.{PasswordReplaced}

-- the view whose password is masked
abbrev pub masked_view : {V : Type 0} → PasswordMasked V → V
masked_view m = m.view

-- the view whose password is replaced
abbrev pub replaced_view : {V D : Type 0} → PasswordReplaced V D → V
replaced_view r = r.view

-- what stands in place of the password
abbrev pub alternative : {V D : Type 0} → PasswordReplaced V D → Option D
alternative r = r.alt

-- t with the text of the alternative in place of its password, or t where there is none
abbrev pub text_replaced : {D : Type 0} → (D → List ℕ) → List ℕ → Option D → List ℕ
text_replaced show t None = t
text_replaced show t (Some d) = with_password t (show d)

-- the alternative is what the call gave for the password; without a password there is none
abbrev pub GivenFor : {D : Type 0} → (List ℕ → D → Type 0) → Option (List ℕ) → Option D → Type 0
GivenFor call None alt = alt ≡ None
GivenFor {D} call (Some p) alt = (d : D) × (alt ≡ Some d) × call p d
