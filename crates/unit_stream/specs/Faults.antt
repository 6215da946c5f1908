-- What a packet of a switched PID may not be, after the head.
use Rattle.std.specs.Prelude.{ℕ, ℤ, pos, negsuc, ◌-ℤ◌, ◌∷◌, List, [], Bool, false, ◌&&◌, ◌||◌, if◌then◌else◌, Option, None, Some}
use lib.Signed.{lt_z}
use Rattle.pes_time.specs.Line.{place}
use Rattle.pes_time.specs.Stamps.{stamp_of, is_split}
use Rattle.ts_packet.specs.Fields.{payload_on, scrambled}
use Rattle.unit_stream.specs.Times.{begins_one, high, stamp, splits}
use Rattle.unit_stream.specs.declared.fault.UnitFault.{UnitFault}
use Rattle.unit_stream.specs.declared.fault.UnitFault.TheVariants.{Scrambled, HeaderSplit, TimeJump}

-- a payload packet of a switched PID with scrambling bits (2.4.3.3, transport_scrambling_control)
abbrev pub scrambled_one : List ℕ → List ℕ → Bool
scrambled_one [] p = false
scrambled_one (pid ∷ pids) p = (payload_on pid p && scrambled p) || scrambled_one pids p

-- farther than 900,000 ticks (10 seconds), either way
abbrev pub is_far : ℤ → Bool
is_far d = lt_z (pos 900000) d || lt_z d (negsuc 899999)

-- the stamp lies farther than that from the greatest time
abbrev pub jumps : Option ℤ → Option ℕ → Bool
jumps None s = false
jumps (Some h) None = false
jumps (Some h) (Some t) = is_far (place (Some h) t -ℤ h)

-- what is wrong with the beginning of a unit: its stamps are split, or its time jumps
abbrev pub start_fault : Option ℤ → Bool → Option ℕ → Option UnitFault
start_fault high split stamp = if split then Some HeaderSplit else (if jumps high stamp then Some TimeJump else None)

-- the same of a unit whose first packet has this payload
abbrev pub payload_fault : Option ℤ → List ℕ → Option UnitFault
payload_fault high payload = start_fault high (is_split payload) (stamp_of payload)

-- what is wrong with a packet, by the packets before it
abbrev pub unit_fault : List ℕ → List ℕ → List (List ℕ) → Option UnitFault
unit_fault switched p past =
    if scrambled_one switched p then Some Scrambled
    else (if begins_one switched p past then start_fault (high switched past) (splits p) (stamp p) else None)
