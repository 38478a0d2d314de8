-- Worked examples, computed.
use Rattle.std.specs.Prelude.{◌≡◌, codes, refl}
use Rattle.iri_normal.specs.Dots.{is_dot_segment}
use Rattle.iri_normal.specs.DotRemoval.{dots}

-- the two of RFC 3986 section 5.2.4
absolute : dots (codes "/a/b/c/./../../g") ≡ codes "/a/g"
unfolding dots is_dot_segment
absolute = refl

relative : dots (codes "mid/content=5/../6") ≡ codes "mid/6"
unfolding dots is_dot_segment
relative = refl

-- the paths of references of section 5.4, merged with `/b/c/d;p`
one_dot : dots (codes "/b/c/.") ≡ codes "/b/c/"
unfolding dots is_dot_segment
one_dot = refl

two_dots : dots (codes "/b/c/..") ≡ codes "/b/"
unfolding dots is_dot_segment
two_dots = refl

past_the_root : dots (codes "/b/c/../../../../g") ≡ codes "/g"
unfolding dots is_dot_segment
past_the_root = refl

no_dot_segments : dots (codes "/b/c/..g") ≡ codes "/b/c/..g"
unfolding dots is_dot_segment
no_dot_segments = refl

segment_and_dots : dots (codes "/b/c/g;x=1/../y") ≡ codes "/b/c/y"
unfolding dots is_dot_segment
segment_and_dots = refl

after_a_segment : dots (codes "/b/c/./g/.") ≡ codes "/b/c/g/"
unfolding dots is_dot_segment
after_a_segment = refl

-- dots in triplets, and what dots leave of paths without authority
in_triplets : dots (codes "/a/%2E/../b") ≡ codes "/b"
unfolding dots is_dot_segment
in_triplets = refl

two_slashes : dots (codes "/..//b") ≡ codes "//b"
unfolding dots is_dot_segment
two_slashes = refl

nothing_left : dots (codes "x/../..") ≡ codes "/"
unfolding dots is_dot_segment
nothing_left = refl

at_start : dots (codes ".././%2e./a/../b") ≡ codes "/b"
unfolding dots is_dot_segment
at_start = refl
