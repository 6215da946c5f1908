-- A break that ends cleanly.
use Rattle.std.proofs.Common.{◌≡◌, ℕ, ◌+◌, ◌*◌, ◌<◌, ◌≤◌, List, Option, inl, inr, arith}
use Rattle.break_choices.specs.declared.pictures.Picture.{Picture}
use Rattle.break_choices.specs.declared.pictures.Wanted.TheVariants.{Clean}
use Rattle.break_choices.specs.declared.slots.Slot.{Slot}
use Rattle.break_choices.specs.declared.placing.Placed.{Placed}
use Rattle.break_choices.specs.Pictures.{IsFirstFrom}
use Rattle.break_choices.specs.Cuts.{PartsPictures, CutsBefore, named_time}
use Rattle.break_choices.specs.Placing.{StandsAt}
use Rattle.break_choices.specs.Endings.{IsNearLength, IfClean, IsCleanAt, BreakEndsAt}
use Rattle.break_choices.proofs.PictureLemmas.{each_by}

-- a time of a slot cuts just before the picture at which the slot ends
pub slot_cuts : (ps : List Picture) (slot : Slot) (p : Picture) (time : ℕ) → slot.until ≡ p.time → PartsPictures slot ps → slot.after < time → time ≤ slot.until → CutsBefore ps p time
slot_cuts ps slot p time until parts after within = record {
  until = omega (arith, until, within);
  parts = each_by ps (λ q h. elim h [ inl below ↦ inl (omega (arith, below, after)) | inr above ↦ inr (omega (arith, above, until)) ]) parts;
}

-- a pre-roll between the least and the greatest starts just before the picture
pub roll_cuts : (ps : List Picture) (x : Placed) (roll : ℕ) → StandsAt ps x → x.pre_rolls.least ≤ roll → roll ≤ x.pre_rolls.most
    → CutsBefore ps x.picture (named_time x.mark.high roll)
roll_cuts ps x roll s low high =
    slot_cuts ps x.slot x.picture (named_time x.mark.high roll) s.until s.parts (omega (arith, s.rolls.least, low)) (omega (arith, s.rolls.most, high))

-- an ending by a pre-roll of these, with a clean cut or none
pub ends_at : (ps : List Picture) (x : Placed) (long roll tenths : ℕ) (clean : Option Picture) → StandsAt ps x → x.pre_rolls.least ≤ roll → roll ≤ x.pre_rolls.most
    → IsNearLength tenths long → IfClean ps (named_time x.mark.high roll + 9000 * tenths) clean
    → BreakEndsAt ps x long (record { pre_roll = roll; tenths = tenths; clean = clean })
ends_at ps x long roll tenths clean s low high near ends = record {
  some = omega (arith, s.rolls.some, low);
  fits = omega (arith, s.rolls.fits, high);
  starts = roll_cuts ps x roll s low high;
  near = near;
  ends = ends;
}

-- a clean cut at a time of the slot before a clean picture
pub clean_at : (ps : List Picture) (from time : ℕ) (p : Picture) (slot : Slot) → IsFirstFrom Clean from ps p → slot.until ≡ p.time → PartsPictures slot ps → slot.after < time
    → time ≤ p.time → IsCleanAt ps time p
clean_at ps from time p slot h until parts after within = record {
  of = h.of;
  clean = h.taken;
  cuts = slot_cuts ps slot p time until parts after (omega (arith, until, within));
}
