-- A packet of one of the streams that are gathered.
use Rattle.std.specs.Prelude.{option_map, slice_get, Vec, vec_len, ◌<◌}
use Rattle.std.proofs.lemmas.Option.{slice_get-get_or, slice_get_within}
use Rattle.std.proofs.Common.{◌≡◌, ℕ, arith, get_or, List, ◌∷◌, true, false, refl, sym, ap, ◌∙◌, subst, Option, Some, None}
use Rattle.std.proofs.Math.ListN.{set}
use Rattle.pes_time.specs.Line.{place}
use Rattle.unit_stream.specs.Times.{begins, begins_one, high, raised, stamp}
use Rattle.unit_stream.proofs.ClockLemmas.{high_begun, high_same, begins_off, begins_not, begins_repeat}
use Rattle.psi_tables.specs.declared.stream.Stream.{Stream}
use Rattle.program_follower.specs.declared.streams.StreamPacket.{StreamPacket}
use Rattle.program_follower.specs.declared.streams.StreamPacket.TheVariants.{Start, More, Repeat, Lead, NoPayload}
use Rattle.program_follower.specs.Faults.{pids_in}
use Rattle.program_follower.specs.Streaming.{IsStreamPacket}
use Rattle.program_follower.proofs.StreamLemmas.{first_is_on}
use Rattle.ts_packet.proofs.Cases.{true_or_false}
use Rattle.ad_library.specs.declared.gathered.Gathered.{Gathered}
use Rattle.ad_library.specs.Storing.{on_line}
use Rattle.ad_library.specs.Gathering.{AllGathered, GathersStream, IsGathered, IsTold, IsUnitStart, StreamsStand, IsOfOne}
use Rattle.ad_library.proofs.StreamsLemmas.{found, all_set, begins_first}

-- what the greatest time has become, and the time of the unit that begins
pub record Passed (old new : Option ℕ) (part : StreamPacket) (time : Option ℕ) : Type 0 where
  pub own : (s : Option ℕ) → IsTold part (option_map on_line old) s → option_map on_line time ≡ option_map (place (option_map on_line old)) s
  pub raised_so : (s : Option ℕ) → IsTold part (option_map on_line old) s → option_map on_line new ≡ raised (option_map on_line old) s
  pub other : IsUnitStart part ≡ false → new ≡ old

module _ (pids : List ℕ) (pid : ℕ) (p : List ℕ) (past : List (List ℕ)) (old new time : Option ℕ) (latest : option_map on_line old ≡ high pids past) where
  own_is : (part : StreamPacket) → IsStreamPacket part pids pid p past → Passed old new part time → begins pid p past ≡ true
      → option_map on_line time ≡ option_map (place (high pids past)) (stamp p)
  own_is (Start begun) is t b =
      t.own (stamp p) (subst (λ l. IsTold (Start begun) l (stamp p)) (sym latest) is.1) ∙ ap (λ l. option_map (place l) (stamp p)) latest
  own_is More is t b = true_or_false _ b (begins_not pid p past is.1)
  own_is Repeat is t b = true_or_false _ b (begins_repeat pid p past is.1)
  own_is Lead is t b = true_or_false _ b (begins_not pid p past is.1)
  own_is NoPayload is t b = true_or_false _ b (begins_off pid p past is)

  same_high : IsUnitStart (Start None) ≡ true → new ≡ old → begins_one pids p past ≡ false → option_map on_line new ≡ high pids (p ∷ past)
  same_high u e n = ap (option_map on_line) e ∙ latest ∙ sym (high_same pids p past n)

  high_next : (part : StreamPacket) → IsStreamPacket part pids pid p past → Passed old new part time → begins_one pids p past ≡ begins pid p past → option_map on_line new ≡ high pids (p ∷ past)
  high_next (Start begun) is t b =
      t.raised_so (stamp p) (subst (λ l. IsTold (Start begun) l (stamp p)) (sym latest) is.1) ∙ ap (λ l. raised l (stamp p)) latest ∙ sym (high_begun pids p past (b ∙ is.0))
  high_next More is t b = same_high refl (t.other refl) (b ∙ begins_not pid p past is.1)
  high_next Repeat is t b = same_high refl (t.other refl) (b ∙ begins_repeat pid p past is.1)
  high_next Lead is t b = same_high refl (t.other refl) (b ∙ begins_not pid p past is.1)
  high_next NoPayload is t b = same_high refl (t.other refl) (b ∙ begins_off pid p past is)

-- what a place of a list lends
pub got : {X Z : Type 0} (v : Vec X Z) (i : ℕ) (x : X) → i < vec_len v → x ≡ get_or v.items i x → Some x ≡ slice_get v.items i
got v i x lt e = let size = v.ok.0 in ap Some e ∙ sym (slice_get-get_or v.items i x (omega (arith, lt, size)))

pub of_some : {A Z : Type 0} (o : Option (Vec (Gathered A) Z)) (v : Vec (Gathered A) Z) (high' : Option ℕ) (part : StreamPacket) (index : ℕ) (one : ℕ × ℕ) (ss : List Stream) (p : List ℕ) (past : List (List ℕ))
    → o ≡ Some v → IsOfOne o high' part index one ss p past → IsOfOne (Some v) high' part index one ss p past
of_some {A} {Z} o v high' part index one ss p past e h = subst (λ (x : Option (Vec (Gathered A) Z)). IsOfOne x high' part index one ss p past) e h

module _ {A Z : Type 0} (v : Vec (Gathered A) Z) (high1 high2 time : Option ℕ) (part : StreamPacket) (index : ℕ) (one : ℕ × ℕ) (ss : List Stream) (p : List ℕ) (past : List (List ℕ))
    (h : IsOfOne (Some v) high1 part index one ss p past) (t : Passed high1 high2 part time) where
  pub is_gathered : IsGathered part time (pids_in ss) one.1 p past
  is_gathered = record {
    is_on = first_is_on (pids_in ss) p one h.first_is;
    is = h.is;
    own = own_is (pids_in ss) one.1 p past high1 high2 time h.stand.high_is part h.is t;
  }

  some_is : {X : Type 0} (x y : X) → Some x ≡ Some y → x ≡ y
  some_is x y e = cc

  pub there : (old : Gathered A) → Some old ≡ slice_get v.items index → GathersStream old (pids_in ss) one.1 past
  there old e =
      let (g, at, is) = found p past v.items ss (pids_in ss) one h.stand.streams_are h.first_is in
      let same : g ≡ old = some_is g old (sym at ∙ ap (slice_get v.items) h.place_is ∙ sym e) in
      subst (λ (x : Gathered A). GathersStream x (pids_in ss) one.1 past) same is

  pub not_there : {P : Type 0} → (index < vec_len v → P) → P
  not_there e =
      let (g, at, is) = found p past v.items ss (pids_in ss) one h.stand.streams_are h.first_is in
      let lt = slice_get_within v.items one.0 g at in
      let size = v.ok.0 in
      let place = h.place_is in
      e (omega (arith, lt, size, place))

  pub one_more : (w : Vec (Gathered A) Z) (old new : Gathered A) → Some old ≡ slice_get v.items index → w.items ≡ set v.items index new → new.kind ≡ old.kind
      → GathersStream new (pids_in ss) one.1 (p ∷ past) → StreamsStand (Some w) high2 ss (p ∷ past)
  one_more w old new e i k g = record {
    streams_are = subst (λ gs. AllGathered gs ss (pids_in ss) (p ∷ past)) (ap (λ n. set v.items n new) h.place_is ∙ sym i)
        (all_set p past v.items ss (pids_in ss) one old new h.stand.streams_are h.apart h.first_is (ap (slice_get v.items) h.place_is ∙ sym e) k g);
    high_is = high_next (pids_in ss) one.1 p past high1 high2 time h.stand.high_is part h.is t (begins_first p past (pids_in ss) one h.first_is);
  }
