-- What is warned of at the end of a good run.
use Rattle.std.specs.Prelude.{ℕ, ◌+◌, Bool, true, false, Option, Some, min, slice_set, nat_lt, if◌then◌else◌, is_some}
use Rattle.chain_engine.specs.declared.hearing.SessionEnd.TheVariants as session
use Rattle.event_table.specs.declared.event.Event.{Event}
use Rattle.run_events.specs.declared.misfit.Misfit.TheVariants as misfit
use Rattle.run_events.specs.declared.occurrence.Cue.TheVariants as cue
use Rattle.run_events.specs.declared.occurrence.Occurrence.{Occurrence}
use Rattle.run_events.specs.declared.occurrence.What.{What}
use Rattle.run_events.specs.declared.occurrence.What.TheVariants as what
use Rattle.event_logs.specs.declared.warnings.UncleanEdge.{UncleanEdge}
use Rattle.event_logs.specs.declared.warnings.UnlistedBreak.{UnlistedBreak}
use Rattle.event_logs.specs.declared.warnings.Warnings.{Warnings}
use Rattle.event_logs.specs.Logs.{most}

-- a count after one more, which stops at the greatest u64
abbrev pub one_more : ℕ → ℕ
one_more n = min (n + 1) most

-- behind one more edge: all are counted, and the first three are kept
abbrev pub with_edge : UncleanEdge → Warnings → Warnings
with_edge edge w =
    if nat_lt w.shown 3 then record w { edges = one_more w.edges; first_edges = slice_set w.first_edges w.shown (Some edge); shown = w.shown + 1 }
    else record w { edges = one_more w.edges }

-- behind one more program that was not found: the first eight are kept
abbrev pub with_missing : ℕ → Warnings → Warnings
with_missing program w =
    if nat_lt w.missing 8 then record w { not_found = slice_set w.not_found w.missing (Some program); missing = w.missing + 1 } else w

-- behind one more break whose advertisement is not listed: all are counted, and the first is kept
abbrev pub with_unlisted : Event → Warnings → Warnings
with_unlisted event w =
    if is_some w.first_unlisted then record w { unlisted = one_more w.unlisted }
    else record w { unlisted = one_more w.unlisted; first_unlisted = Some (record { event = event.id; program = event.program }) }

-- behind what happened at a packet
abbrev pub heard_what : What → Option ℕ → ℕ → Warnings → Warnings
heard_what (what.Cue (cue.Start (Some misfit.NoAdvert)) event) service packet w = with_unlisted event w
heard_what (what.Edge place fault) service packet w =
    with_edge (record { service = service; packet = packet; place = place; fault = fault }) w
heard_what (what.Session session.BadSize) service packet w = record w { is_closed = true }
heard_what (what.NotFound program) service packet w = with_missing program w
heard_what what.End service packet w = record w { packets = packet }
heard_what _ service packet w = w

abbrev pub heard : Occurrence → Warnings → Warnings
heard o w = heard_what o.what o.service o.packet w

-- a message was judged
abbrev pub is_request : What → Bool
is_request (what.Request asked verdict is_given) = true
is_request _ = false
