-- The words of lines.
use Rattle.std.specs.Prelude.{ℕ, List, codes, ◌==◌, if◌then◌else◌}
use Rattle.chain_engine.specs.declared.hearing.SessionEnd.{SessionEnd}
use Rattle.chain_engine.specs.declared.hearing.SessionEnd.TheVariants as session
use Rattle.run_events.specs.declared.occurrence.AskedKind.{AskedKind}
use Rattle.run_events.specs.declared.occurrence.AskedKind.TheVariants as asked
use Rattle.run_events.specs.declared.occurrence.Edge.{Edge}
use Rattle.run_events.specs.declared.occurrence.Edge.TheVariants as edge
use Rattle.run_events.specs.declared.occurrence.What.{What}
use Rattle.run_events.specs.declared.occurrence.What.TheVariants as what
use Rattle.run_events.specs.declared.misfit.Misfit.{Misfit}
use Rattle.run_events.specs.declared.misfit.Misfit.TheVariants as misfit

-- a splice_insert_type (ANSI/SCTE 104)
abbrev pub operation_name : ℕ → List ℕ
operation_name kind =
    if kind == 1 then codes "start"
    else (if kind == 2 then codes "start_immediate"
    else (if kind == 3 then codes "end"
    else (if kind == 4 then codes "end_immediate"
    else (if kind == 5 then codes "cancel" else codes "reserved"))))

-- a message that has no single request
abbrev pub kind_name : AskedKind → List ℕ
kind_name asked.Init = codes "init"
kind_name asked.Alive = codes "alive"
kind_name asked.Other = codes "other"
kind_name asked.Bad = codes "bad_syntax"
kind_name (asked.Splice request) = codes "no_single_request"

abbrev pub end_name : SessionEnd → List ℕ
end_name session.Ended = codes "ended"
end_name session.TakeFailed = codes "take_failed"
end_name session.BadSize = codes "bad_size"
end_name session.AnswerFailed = codes "answer_failed"

abbrev pub edge_name : Edge → List ℕ
edge_name edge.Start = codes "start"
edge_name edge.End = codes "end"

abbrev pub misfit_name : Misfit → List ℕ
misfit_name misfit.NoAdvert = codes "no_advertisement"
misfit_name (misfit.NoStream pid kind) = codes "no_stream"
misfit_name (misfit.Short ticks) = codes "too_short"

-- what happened
abbrev pub what_name : What → List ℕ
what_name (what.Request asked verdict is_given) = codes "request"
what_name (what.Session end) = codes "session"
what_name (what.Cue cue event) = codes "cue"
what_name (what.Begun event pid pts) = codes "begun"
what_name (what.Over event pid pts) = codes "over"
what_name (what.Cancelled event) = codes "cancelled"
what_name (what.EndedEarly event) = codes "ended_early"
what_name (what.Edge place fault) = codes "edge"
what_name (what.RandomAccess place ticks) = codes "random_access"
what_name (what.Played event) = codes "played"
what_name (what.NotFitted event misfit) = codes "not_fitted"
what_name (what.Unconditioned event) = codes "unconditioned"
what_name (what.Lost count) = codes "lost"
what_name (what.NotFound program) = codes "not_found"
what_name what.End = codes "end"
