use Rattle.std.proofs.Common.{sym, subst, ◌∙◌}
use Rattle.std.specs.Prelude.{Option, option_map}
use Rattle.psi_tables.specs.ProgramMap.{pmt}
use Rattle.program_follower.specs.Program.{map_read, Program, program_in}
use Rattle.program_follower.specs.Known.{known_seen, IsFaultless}
use Rattle.program_follower.proofs.FaultlessMapLemmas.{seen_some, known_stays}
use Rattle.program_follower.proofs.map_reader.judge_section.Goals as goal

pub returns-then-comes_again-clause-ok : goal.returns-then-comes_again-clause-ok
returns-then-comes_again-clause-ok c =
    let known = known_seen c.args.known.now in
    let r = c.comes_again.ensures known c.requires c.if-comes_again.true in
    (r.0, sym (known_stays known (option_map program_in (map_read c.args.listed.now.program (pmt c.args.section.now))) r.1))

pub returns-else-was_known-clause-faultless : goal.returns-else-was_known-clause-faultless
returns-else-was_known-clause-faultless c = λ k l by.
    let some = sym (seen_some c.args.known.now) ∙ (c.requires k l by).1 in
    let none = c.is_some-was_known.ensures in
    let is = c.if-was_known.false in
    absurd (cc)

pub returns-in-Err-clause-faultless : goal.returns-in-Err-clause-faultless
returns-in-Err-clause-faultless c =
    let P : Option Program → Type 0 = λ known. IsFaultless c.args.faultless.now known in
    subst P (sym c.in-Err.ensures.stays) c.requires
