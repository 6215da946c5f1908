-- Cues in packets, and which go out.
use Rattle.std.proofs.Common.{◌≡◌, ℕ, ◌+◌, ◌%◌, ◌^◌, ◌<◌, Bool, true, false, not, ◌&&◌, cond, List, ◌++◌, length, refl, ap, ◌∙◌, arith}
use Rattle.std.specs.Prelude.{ℤ, pos, ◌+ℤ◌, ◌-ℤ◌, ◌≤ℤ◌, ◌<ℤ◌, int_lt, map, Option, None, Some, option_map}
use Rattle.std.proofs.lemmas.Int.{ints}
use Rattle.pes_time.specs.Line.{ring_of, signed}
use Rattle.scte35_codec.specs.declared.cue_out.CueOut.{CueOut}
use Rattle.scte35_codec.specs.declared.cue_out.CueOut.TheVariants.{Start, Cancel, End}
use Rattle.scte35_codec.specs.Spelling.{cue_bytes, unchecked_bytes}
use Rattle.event_table.specs.Events.{ring_end}
use Rattle.event_table.specs.Rings.{is_before_on_ring}
use Rattle.event_table.specs.Standing.{Standing, on_ring, end_of, IsInReach, IsWithin}
use Rattle.event_table.proofs.TimeLemmas.{ring-plus, signed-range}
use Rattle.event_table.proofs.EventLemmas.{not-lt}
use Rattle.std.proofs.lemmas.List.{map-append}
use Rattle.ts_packet.specs.Runs.{onto}
use Rattle.ts_packet.proofs.RunLemmas.{onto-append}
use Rattle.program_laws.specs.Writing.{packets_out}
use Rattle.outgoing_packets.proofs.NumberLemmas.{packets-append}
use Rattle.injector.specs.declared.choice.Choice.{Choice}
use Rattle.injector.specs.Senders.{Sender, is_none, is_ended, news, current, limit, is_repeated, chosen, no_cue, start_cue, end_cue, cancel_cue, when, cues_by, packed}
use Rattle.injector.specs.Noting.{told_by_cue, ring_news, ring_limit, ring_repeated, ring_chosen, LastIn, IsKept}
use Rattle.unit_stream.specs.Clocks.{Rises}

pub cue-some : (cue : CueOut) → 0 < length (cue_bytes cue)
unfolding cue_bytes unchecked_bytes
cue-some (Start event time duration program avail expected avails) = omega arith
cue-some (Cancel event) = omega arith
cue-some (End event time) = omega arith

pub ring-limit : (e : Standing) → ring_limit (on_ring e) ≡ ring_of (limit e)
ring-limit e = by (not e.cancelled && is_ended e)
  where
    by : (b : Bool) → cond b (ring_end (on_ring e)) (ring_of e.start) ≡ ring_of (cond b (end_of e) e.start)
    by true = ring-plus e.start e.length
    by false = refl

ring-news : (e : Standing) (t : Option Standing) → ring_news (on_ring e) (option_map told_by_cue t) ≡ news e t
ring-news e None = refl
ring-news e (Some t) = refl

pub limit-bounds : (high : ℤ) (e : Standing) → IsInReach high e → (limit e ≤ℤ (high +ℤ pos (2 ^ 31))) × (high ≤ℤ (limit e +ℤ pos (2 ^ 31)))
limit-bounds high e r = by (not e.cancelled && is_ended e)
  where
    by : (b : Bool) → (cond b (end_of e) e.start ≤ℤ (high +ℤ pos (2 ^ 31))) × (high ≤ℤ (cond b (end_of e) e.start +ℤ pos (2 ^ 31)))
    by true = let s = r.start in let m = r.most in let k = r.shortened in let f = r.stands in (omega (arith, ints), omega (arith, ints))
    by false = let s = r.start in let m = r.most in let k = r.shortened in let f = r.stands in (omega (arith, ints), omega (arith, ints))

-- two times less than 2^32 apart
pub before-within : (a b : ℤ) → b ≤ℤ (a +ℤ pos (2 ^ 32)) → a <ℤ (b +ℤ pos (2 ^ 32)) → is_before_on_ring (ring_of a) (ring_of b) ≡ int_lt a b
before-within a b low top = let way : signed (ring_of a) (ring_of b) ≡ a -ℤ b = signed-range a b low top in rw way (grind (arith, ints))

ring-repeated : (e : Standing) (last high later : Option ℤ) → IsWithin high e → LastIn high e.start last → Rises high later
    → ring_repeated (on_ring e) (option_map ring_of last) (option_map ring_of high) (option_map ring_of later) ≡ is_repeated e last high later
ring-repeated e None high later within inside rises = refl
ring-repeated e (Some last) None later within inside rises = refl
ring-repeated e (Some last) (Some high) None within inside rises = refl
ring-repeated e (Some last) (Some high) (Some later) within inside rises =
    let bounds = limit-bounds high e within in
    let start = within.start in
    let some = within.some in
    let short = within.shortened in
    let most = within.most in
    let stands = within.stands in
    let above = rises.0 in
    let below = rises.1 in
    let from = inside.0 in
    let near = inside.1 in
    let limit_is : is_before_on_ring (ring_of high) (ring_limit (on_ring e)) ≡ int_lt high (limit e)
    = ap (is_before_on_ring (ring_of high)) (ring-limit e) ∙ before-within high (limit e) (omega (arith, ints)) (omega (arith, ints)) in
    let second : is_before_on_ring (ring_of later) ((ring_of last + 90000) % 2 ^ 33) ≡ int_lt later (last +ℤ pos 90000)
    = ap (is_before_on_ring (ring_of later)) (ring-plus last 90000) ∙ before-within later (last +ℤ pos 90000) (omega (arith, ints)) (omega (arith, ints)) in
    ap (λ b. b && not (is_before_on_ring (ring_of later) ((ring_of last + 90000) % 2 ^ 33))) limit_is
    ∙ ap (λ b. int_lt high (limit e) && not b) second
    ∙ ap (λ b. int_lt high (limit e) && b) (not-lt later (last +ℤ pos 90000))

pub ring-chosen : (x : Sender) (high later : Option ℤ) → IsWithin high x.event → IsKept high x → Rises high later
    → ring_chosen (on_ring x.event) (option_map told_by_cue x.told) (option_map ring_of x.last) (option_map ring_of high) (option_map ring_of later) ≡ chosen x high later
ring-chosen x high later within kept rises =
    ap (λ n. cond (not (is_none n)) n (cond (ring_repeated (on_ring x.event) (option_map ring_of x.last) (option_map ring_of high) (option_map ring_of later)) (current x.event) no_cue)) (ring-news x.event x.told)
    ∙ ap (λ b. cond (not (is_none (news x.event x.told))) (news x.event x.told) (cond b (current x.event) no_cue)) (ring-repeated x.event x.last high later within kept.last rises)

-- ---- cues in turn

pub one-of_three : (pid : ℕ) (out : List (List ℕ)) (one rest : List CueOut) → pid < 8192
    → packed pid out (one ++ rest) ≡ packed pid out one ++ packed pid (onto out (packed pid out one)) rest
one-of_three pid out one rest pb = ap (packets_out pid out) (map-append cue_bytes one rest) ∙ packets-append pid out (map cue_bytes one) (map cue_bytes rest) pb

module _ (pid : ℕ) (out : List (List ℕ)) (one two three : List CueOut) (pb : pid < 8192) where
  first_out : List (List ℕ)
  first_out = onto out (packed pid out one)

  second_out : List (List ℕ)
  second_out = onto (onto out (packed pid out one)) (packed pid (onto out (packed pid out one)) two)

  pub three-packed : packed pid out (one ++ (two ++ three))
      ≡ packed pid out one ++ (packed pid (onto out (packed pid out one)) two ++ packed pid (onto (onto out (packed pid out one)) (packed pid (onto out (packed pid out one)) two)) three)
  three-packed = one-of_three pid out one (two ++ three) pb ∙ ap (λ l. packed pid out one ++ l) (one-of_three pid (onto out (packed pid out one)) two three pb)

  pub three-onto : onto out (packed pid out (one ++ (two ++ three)))
      ≡ onto (onto (onto out (packed pid out one)) (packed pid (onto out (packed pid out one)) two)) (packed pid (onto (onto out (packed pid out one)) (packed pid (onto out (packed pid out one)) two)) three)
  three-onto =
      ap (onto out) three-packed
      ∙ onto-append out (packed pid out one) (packed pid (onto out (packed pid out one)) two ++ packed pid (onto (onto out (packed pid out one)) (packed pid (onto out (packed pid out one)) two)) three)
      ∙ onto-append (onto out (packed pid out one)) (packed pid (onto out (packed pid out one)) two) (packed pid (onto (onto out (packed pid out one)) (packed pid (onto out (packed pid out one)) two)) three)

pub three-cues : (x : Sender) (choice : Choice) (a b c : CueOut) → a ≡ start_cue x → b ≡ end_cue x → c ≡ cancel_cue x
    → when choice.start a ++ (when choice.end b ++ when choice.cancel c) ≡ cues_by x choice
three-cues x choice a b c ea eb ec =
    ap (λ q. when choice.start q ++ (when choice.end b ++ when choice.cancel c)) ea
    ∙ ap (λ q. when choice.start (start_cue x) ++ (when choice.end q ++ when choice.cancel c)) eb
    ∙ ap (λ q. when choice.start (start_cue x) ++ (when choice.end (end_cue x) ++ when choice.cancel q)) ec
