-- What a splice leaves as it was.
use Rattle.std.specs.Prelude.{◌≡◌, ℕ, List, Bool, true, false, not, ◌||◌, filter, reverse, length, All}
use Rattle.ts_packet.specs.Fields.{in_error, pid_of, is_among}
use Rattle.output_laws.specs.Output.{Move, Keep, Leave, Put, network, Packing, output, Sound, AlongMoves}

-- a packet marked in error, or of none of these PIDs
abbrev pub is_off : List ℕ → List ℕ → Bool
is_off pids p = in_error p || not (is_among (pid_of p) pids)

-- packets are left out, and units put in, on these PIDs alone
abbrev pub ChangesOnly : List ℕ → Move → List Move → Type 0
ChangesOnly pids (Keep p) past = Unit {0}
ChangesOnly pids (Leave p) past = is_off pids p ≡ false
ChangesOnly pids (Put q u) past = is_among q pids ≡ true

-- THE PACKETS OF ALL OTHER PIDS, and those marked in error, are the same list, byte for byte
abbrev pub OthersPass : Type 0
OthersPass = (packed : Packing) (pids : List ℕ) (moves : List Move) → AlongMoves (λ (s : Move) (past : List Move). Sound packed s) (reverse moves) → AlongMoves (ChangesOnly pids) (reverse moves) →
    All (λ (p : List ℕ). length p ≡ 188) (network moves) → filter (is_off pids) (output packed moves) ≡ filter (is_off pids) (network moves)
