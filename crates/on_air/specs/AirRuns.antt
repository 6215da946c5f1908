-- Runs on air of any network: which stretches it has, and which packets of them are left unjudged.
use Rattle.std.specs.Prelude.{◌≡◌, ℕ, ◌+◌, List, [], ◌∷◌, length, reverse, Bool, true, false, not, if◌then◌else◌, count_by}
use Rattle.ts_packet.specs.Packets.{packets_of}
use Rattle.psi_section.specs.Assembling.{capped}
use Rattle.program_follower.specs.declared.purpose.Purpose.{Purpose}
use Rattle.on_air.specs.Stretches.{Entry, is_judged, with_next, stretches}
use Rattle.on_air.specs.Marking.{Keeps}
use Rattle.on_air.specs.declared.air.Air.{Air}
use Rattle.on_air.specs.declared.report.AirReport.{AirReport}

-- the newest of some stretches; before the first packet there is none
abbrev pub newest : List (List Entry) → List Entry
newest [] = []
newest (past ∷ earlier) = past

abbrev pub has_no : List (List Entry) → Bool
has_no [] = true
has_no (past ∷ earlier) = false

-- the packets that are left unjudged
abbrev pub unjudged_of : List Entry → ℕ
unjudged_of past = count_by (λ (e : Entry). not (is_judged e.judgement)) past

abbrev pub unjudged_in : List (List Entry) → ℕ
unjudged_in [] = 0
unjudged_in (past ∷ earlier) = unjudged_of past + unjudged_in earlier

-- it has come as far as these stretches
pub record AirStands {R : Type 0} (air : Air R) (c : Purpose) (ss : List (List Entry)) : Type 0 where
  pub marks : Keeps air.marks c (newest ss)
  pub is_empty : air.is_empty ≡ has_no ss
  pub stretches : air.stretches ≡ capped (length ss)
  pub unjudged : air.unjudged ≡ capped (unjudged_in ss)

-- what a packet counts, where it begins a stretch or not, and is judged or not
pub record Counted {R : Type 0} (old new : Air R) (is_judged : Bool) : Type 0 where
  pub marks : new.marks ≡ old.marks
  pub is_empty : new.is_empty ≡ false
  pub stretches : new.stretches ≡ (if old.is_empty then capped (old.stretches + 1) else old.stretches)
  pub unjudged : new.unjudged ≡ (if is_judged then old.unjudged else capped (old.unjudged + 1))

-- the stretches once these packets have come too, in order
abbrev pub all_next : Purpose → List (List ℕ) → List (List Entry) → List (List Entry)
all_next c [] ss = ss
all_next c (p ∷ ps) ss = all_next c ps (with_next c p ss)

-- what is told of stretches
pub record TellsOf {R : Type 0} (told : AirReport R) (ss : List (List Entry)) : Type 0 where
  pub count : told.stretches ≡ capped (length ss)
  pub unjudged : told.unjudged ≡ capped (unjudged_in ss)

-- THE THEOREM for any network: what is told of its stretches
abbrev pub TellsStretches : {R : Type 0} → AirReport R → Purpose → List ℕ → Type 0
TellsStretches told c bs = TellsOf told (stretches c (reverse (packets_of bs)))
