-- Packets put in: the number that the next one takes.
use Rattle.std.proofs.Common.{◌≡◌, ℕ, ◌+◌, ◌%◌, List, [], ◌∷◌, ap, Option, None, Some, arith}
use Rattle.ts_packet.specs.declared.follower.Last.{Last}
use Rattle.ts_packet.specs.Fields.{number}
use Rattle.ts_packet.specs.Numbering.{Step, Inserted, moved, last_number, one_past}
use Rattle.unit_stream.specs.UnitPackets.{put_in}
use Rattle.output_laws.proofs.StepLemmas.{moved-inserted}

-- the number out at the last payload packet of the network is its counter, moved up by n
abbrev pub LastIs : ℕ → Option Last → Option ℕ → Type 0
LastIs n None le = Unit {0}
LastIs n (Some l) le = le ≡ Some ((number l.packet + n) % 16)

one_put : (n n' : ℕ) (ol : Option Last) (le : Option ℕ) → n' ≡ n + 1 → LastIs n ol le → LastIs n' ol (Some (one_past le))
one_put n n' None le e h = tt
one_put n n' (Some l) le e h = rw h (ap Some (at (number l.packet))) where
  at : (c : ℕ) → ((c + n) % 16 + 1) % 16 ≡ (c + n') % 16
  at c = omega arith

pub put_last : (ol : Option Last) (qs : List (List ℕ)) (es : List Step) → LastIs (moved es) ol (last_number es) → LastIs (moved (put_in qs es)) ol (last_number (put_in qs es))
put_last ol [] es h = h
put_last ol (q ∷ qs) es h = put_last ol qs (Inserted ∷ es) (one_put (moved es) (moved (Inserted ∷ es)) ol (last_number es) (moved-inserted es) h)
