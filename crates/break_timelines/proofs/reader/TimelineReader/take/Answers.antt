use Rattle.std.proofs.Common.{◌≡◌, ℕ, ◌++◌, ◌||◌, Bool, ap, ◌∙◌, cond, refl, Option, None, Some, arith}
use Rattle.std.specs.Option.{option_to_list}
use Rattle.break_timelines.specs.declared.reader.Timed.{Timed}
use Rattle.break_timelines.specs.Cleaning.{lesser_of}
use Rattle.break_timelines.specs.Timelines.{has_place, has_begun, is_of, first_with, first_of, rises_of}
use Rattle.break_timelines.proofs.reader.TimelineReader.take.Goals as goal

-- the first time is one of these, whatever tells which streams have begun
same_first : (x : Option Timed) (f g : ℕ → Bool) (first : Option ℕ) → ((place : ℕ) → f place ≡ g place) → first_with x f first ≡ first_with x g first
same_first None f g first same = refl
same_first (Some x) f g first same = ap (λ b. cond b first (Some (lesser_of first x.time))) (same x.index)

pub returns : goal.returns
unfolding has_begun first_of rises_of
returns c = λ program past m timed begun r. let p = c.args.packet.now in record {
  follower = m.follower;
  packets = omega (arith, r.packets);
  high = r.high;
  is_past = r.is_past;
  first = c.first_with-self.ensures ∙ same_first c.args.timed _ (λ place. has_begun program place past) _
      (λ place. ap (has_place place) c.as_slice.ensures.value ∙ m.begun place)
      ∙ ap (first_with c.args.timed (λ place. has_begun program place past)) m.first
      ∙ ap (λ x. first_with x (λ place. has_begun program place past) (first_of program past)) timed;
  begun = λ place. c.in_ok-add_begun.ensures place ∙ ap (λ b. is_of place c.args.timed || b) (m.begun place)
      ∙ ap (λ x. is_of place x || has_begun program place past) timed;
  pictures = c.in_ok-feed.ensures program past m.pictures begun;
  marks = c.in_ok-add_mark.ensures ∙ ap (λ xs. xs ++ option_to_list c.args.rise.mark) m.marks ∙ ap (λ ys. rises_of program past ++ ys) r.mark;
}
