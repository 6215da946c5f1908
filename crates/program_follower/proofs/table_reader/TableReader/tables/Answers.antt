use Rattle.std.proofs.Common.{◌∷◌, ◌∙◌, sym}
use Rattle.program_follower.specs.Standing.{shown}
use Rattle.program_follower.proofs.FollowLemmas.{tables_shown}
use Rattle.program_follower.proofs.table_reader.TableReader.tables.Goals as goal

pub returns-in-Some : goal.returns-in-Some
returns-in-Some c = λ k p past h s.
    c.tables.ensures ∙ tables_shown k.program p past c.in-Some.listed (shown c.args.self.now.maps) (sym (c.listed.ensures k.program (p ∷ past) h.pats) ∙ c.in-Some.is) s.newest_is
