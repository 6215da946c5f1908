use Rattle.psi_section.specs.SectionsLeft.{sections_left}
use Rattle.program_follower.specs.Known.{known_seen}
use Rattle.program_follower.proofs.MapsLemmas.{maps_more, maps_fail}
use Rattle.program_follower.proofs.map_reader.judge_sections.Goals as goal

pub loop-section-preserved : goal.loop-section-preserved
loop-section-preserved c = (
  c.in-Ok.ensures.faultless,
  λ before h.
      let j = c.loop-section.invariant.1 before h in
      let ok = c.in-Ok.ensures.ok in
      maps_more c.args.purpose.now c.args.listed.now before (sections_left c.args.sections) (known_seen c.loop-section.known) (sections_left c.loop-section.section-iterator) j c.in-Some.section.now
      (sections_left c.next.new.self) (known_seen c.judge_section.new.known) c.in-Some.ensures.steps ok.0 ok.1,
)

pub returns-in-Err-clause-err : goal.returns-in-Err-clause-err
returns-in-Err-clause-err c = λ first h.
    let j = c.loop-section.invariant.1 first h in
    maps_fail c.args.purpose.now c.args.listed.now first (sections_left c.args.sections) (known_seen c.loop-section.known) (sections_left c.loop-section.section-iterator) j c.in-Some.section.now
    (sections_left c.next.new.self) c.in-Err.fault c.in-Some.ensures.steps c.in-Err.ensures.err
