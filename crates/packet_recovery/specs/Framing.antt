-- The packets in bytes that are not all packets (ISO/IEC 13818-1, 2.4.3.2), and the bytes between them: where a packet does not begin with
-- the sync byte, sync is lost, and is found again where such a byte stands 188 bytes before another, or before the end.
use Rattle.std.specs.Prelude.{ℕ, zero, suc, ◌*◌, ◌-◌, List, [], ◌∷◌, Bool, ◌&&◌, ◌||◌, ◌==◌, if◌then◌else◌, nat_le, nat_lt, slice_index, length, take, drop}

-- the sync byte comes first (2.4.3.3: sync_byte, 0x47)
abbrev pub begins_with_sync : List ℕ → Bool
begins_with_sync bs = slice_index bs 0 == 71

-- sync is found again here: the sync byte comes first, 188 bytes are there, and behind them is nothing, or another sync byte
unfoldable pub resumes : List ℕ → Bool
resumes bs = begins_with_sync bs && (nat_le 188 (length bs) && ((length bs == 188) || begins_with_sync (drop 188 bs)))

-- what stands from the first place on where it is; nothing where there is none
unfoldable pub resumed : List ℕ → List ℕ
resumed [] = []
resumed (b ∷ bs) = if resumes (b ∷ bs) then b ∷ bs else resumed bs

-- the packets, of which there are at most so many
abbrev pub framed_in : ℕ → List ℕ → List (List ℕ)
framed_in zero bs = []
framed_in (suc n) bs = if nat_lt (length bs) 188 then []
    else (if begins_with_sync bs then take 188 bs ∷ framed_in n (drop 188 bs)
    else framed_in n (resumed (drop 1 bs)))

-- THE PACKETS of bytes: those that follow one another from the first byte on while each begins with the sync byte, and, where one does not,
-- those from the next place on where sync is found again
unfoldable pub framed : List ℕ → List (List ℕ)
framed bs = framed_in (length bs) bs

-- how many bytes are in none of them
unfoldable pub skipped : List ℕ → ℕ
skipped bs = length bs - 188 * length (framed bs)
