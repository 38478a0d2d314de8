use Rattle.iri_robots.proofs.ReadBack.{file_read_back}
use Rattle.iri_robots.proofs.laws.rule_lines_are_read_back.Goals as goal

pub returns : goal.returns
returns c token file h = file_read_back token file h
