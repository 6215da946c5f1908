-- Packets but for their counters on some PIDs.
use Rattle.std.specs.Prelude.{ℕ, List, if◌then◌else◌, map}
use Rattle.ts_packet.specs.Fields.{pid_of, is_among, without_number}

-- a packet but for its continuity_counter, where it is of one of these PIDs
abbrev pub uncounted : List ℕ → List ℕ → List ℕ
uncounted pids p = if is_among (pid_of p) pids then without_number p else p

abbrev pub but_counters : List ℕ → List (List ℕ) → List (List ℕ)
but_counters pids ps = map (uncounted pids) ps
