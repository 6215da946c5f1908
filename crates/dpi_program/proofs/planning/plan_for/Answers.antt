use Rattle.std.proofs.Common.{refl, sym, ◌∙◌}
use Rattle.break_plans.specs.declared.drafts.Setting.{Setting}
use Rattle.ts_packet.proofs.Cases.{on_ok_more}
use Rattle.dpi_program.specs.Planning.{IsSettingOf}
use Rattle.dpi_program.proofs.planning.plan_for.Goals as goal

pub returns-in-Ok : goal.returns-in-Ok
returns-in-Ok g c =
    let setting : Setting = record {
      pictures = c.pictures.result;
      marks = c.marks.result;
      streams = c.streams.result;
      first = c.in-Some.first;
      library = c.args.library;
      index = c.args.options.now.index;
    } in
    let is : IsSettingOf setting c.args.timeline.now c.args.options.now.program c.args.library.now c.args.options.now.index = record {
      pictures_are = c.pictures.ensures;
      marks_are = c.marks.ensures;
      streams_are = c.streams.ensures c.args.options.now.program;
      first_is = sym c.first.ensures ∙ c.in-Some.is;
      library_is = refl;
      index_is = refl;
    } in
    on_ok_more c.write_plan.result (λ written. (setting, c.in-Ok.planned, is, c.in-Ok.ensures, written)) c.write_plan.ensures
