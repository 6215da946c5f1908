use Rattle.std.proofs.Common.{ℕ, not, None, sym, ap, arith, ◌∙◌}
use Rattle.std.specs.Prelude.{option_map}
use Rattle.ts_packet.specs.Fields.{in_error}
use Rattle.ts_packet.proofs.Cases.{by_test}
use Rattle.program_follower.specs.Program.{program_of, pids_of}
use Rattle.program_follower.proofs.PlaceLemmas.{no_place}
use Rattle.program_follower.proofs.UseLemmas.{use_elsewhere, use_other, use_stream}
use Rattle.program_follower.proofs.PidLemmas.{owned_off_map}
use Rattle.program_follower.proofs.start_follower.StartFollower.owns.Goals as goal

-- a packet of another PID has no place among the streams
pub returns-in-Other : goal.returns-in-Other
returns-in-Other c = λ k past h.
    let p = c.args.packet.now in
    let numbers = c.args.self.now.uses in
    let e = use_elsewhere numbers k p past h.uses (let z = c.in-Other.ensures.is in omega arith) in
    let off = use_other numbers k p past h.uses c.use_of.ensures.pid c.in-Other.ensures.is in
    owned_off_map k.program p past e.map None (sym (ap (option_map (λ (x : ℕ × ℕ). x.0)) off))

-- a packet of a stream's PID has one, unless it is marked in error
pub returns-in-Stream : goal.returns-in-Stream
returns-in-Stream c = λ k past h.
    let p = c.args.packet.now in
    let numbers = c.args.self.now.uses in
    let is = c.in-Stream.ensures.is in
    let pids = pids_of (program_of k.program past) in
    let e = use_elsewhere numbers k p past h.uses is.1 in
    by_test (in_error p)
    (λ bad. ap not (c.error.ensures ∙ bad) ∙ owned_off_map k.program p past e.map None (no_place pids p bad))
    (λ good. ap not (c.error.ensures ∙ good) ∙ owned_off_map k.program p past e.map _ (use_stream numbers k p past h.uses c.in-Stream.field-0 c.use_of.ensures.pid is.0 is.1 good))
