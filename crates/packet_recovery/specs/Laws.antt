-- What holds of the packets of any bytes.
use Rattle.std.specs.Prelude.{◌≡◌, ℕ, ◌+◌, ◌*◌, ◌<◌, ◌≤◌, List, [], ◌∷◌, ◌++◌, true, false, None, All, length, drop}
use Rattle.ts_packet.specs.Packets.{packets_of, last_part, bytes_of, packet_fault}
use Rattle.packet_recovery.specs.Framing.{begins_with_sync, resumed, framed, skipped}
use Rattle.packet_recovery.specs.Mending.{mended, mends}

-- fewer than 188 bytes hold no packet
abbrev pub PartsHoldNone : Type 0
PartsHoldNone = (bs : List ℕ) → length bs < 188 → framed bs ≡ []

-- 188 bytes with the sync byte first are a packet, and those behind them follow
abbrev pub PacketsFollow : Type 0
PacketsFollow = (p rest : List ℕ) → length p ≡ 188 → begins_with_sync p ≡ true → framed (p ++ rest) ≡ p ∷ framed rest

-- where the sync byte does not come first, the packets are those from the next place of sync on
abbrev pub SyncIsFoundAgain : Type 0
SyncIsFoundAgain = (bs : List ℕ) → 188 ≤ length bs → begins_with_sync bs ≡ false → framed bs ≡ framed (resumed (drop 1 bs))

-- each byte is in a packet, or is skipped
abbrev pub BytesAreCounted : Type 0
BytesAreCounted = (bs : List ℕ) → length bs ≡ skipped bs + 188 * length (framed bs)

-- what is passed on are packets, and bytes of packets are packets again
abbrev pub MendedAreSound : Type 0
MendedAreSound = (bs : List ℕ) → All (λ p. length p ≡ 188) (mended (framed bs)) × All (λ p. packet_fault p ≡ None) (mended (framed bs))
    × (packets_of (bytes_of (mended (framed bs))) ≡ mended (framed bs)) × (last_part (bytes_of (mended (framed bs))) ≡ [])

-- THE LAW of a stream without a fault: its packets are passed on as they are, and what is skipped is what stands behind the last of them
abbrev pub SoundStreamsStay : Type 0
SoundStreamsStay = (bs : List ℕ) → All (λ p. packet_fault p ≡ None) (packets_of bs)
    → (mended (framed bs) ≡ packets_of bs) × (mends (framed bs) ≡ 0) × (skipped bs ≡ length (last_part bs))
