-- The table of the services that take the packets of each PID, and the services that need not be shown a packet.
use Rattle.std.proofs.Common.{◌≡◌, ◌<◌, ◌%◌, ◌/◌, ℕ, zero, suc, List, [], ◌∷◌, length, Bool, true, false, not, ◌==◌, ◌||◌, ◌&&◌, ◌≢◌, refl, sym, ap, subst, ◌∙◌, arith}
use Rattle.std.specs.Prelude.{slice_index_or}
use Rattle.std.specs.List.{list_any}
use Rattle.std.proofs.Math.ListN.{set}
use Rattle.std.proofs.lemmas.Bool.{or_parts, eqb-true, eqb-false}
use Rattle.std.proofs.lemmas.List.{get_or-set_same, get_or-set_other}
use Rattle.ts_packet.specs.Fields.{pid_of}
use Rattle.ts_packet.proofs.Cases.{by_test}
use Rattle.scte104_codec.specs.declared.reply.Reply.{Reply}
use Rattle.injector.specs.declared.requests.Requests.{Requests}
use Rattle.chain_engine.specs.Judging.{JudgesAll}
use Rattle.chain_services.specs.Owners.{AllTake, IsShifted}
use Rattle.chain_services.specs.Serving.{AnswersNone}
use Rattle.services_on_air.specs.Airing.{Airing, nexts, learns}
use Rattle.service_laws.specs.Services.{ServiceTerms}
use Rattle.services_on_air.specs.Histories.{Gone, begins_anew}
use Rattle.services_on_air.specs.Serving.{AllGone, DeskGone}
use Rattle.services_on_air.specs.Standing.{AirDeskJudges, DeskLeavesOut, StillTold}
use Rattle.services_on_air.specs.Owners.{IsBeside, IsBesideAhead, LeavesOutOnAir, IsToldBy, HasOwnersOnAir, HasOwnersAhead, AllJudged, MayStay, MayAllStay, IsLeftOut, AreLeftOut}
use Rattle.services_on_air.specs.declared.service.AirService.{AirService}
use Rattle.services_on_air.specs.declared.desk.AirDesk.{AirDesk}
use Rattle.services_on_air.proofs.BesideLemmas.{beside-ahead, beside-behind}

-- ---- the table

-- where all take all nothing is told
pub all-take : (beside : ℕ → Airing → Type 0) (owners : List ℕ) (xs : List Airing) → AllTake owners → IsToldBy beside owners xs
all-take beside owners xs all = λ pid within below. absurd (let e = all pid within in omega arith)

-- it is told anew of one PID
pub told-set : (old new : List ℕ) (pid v : ℕ) (xs : List Airing) → new ≡ set old pid v → length old ≡ 8192 → pid < 8192 → (v < 255 → LeavesOutOnAir (IsBeside pid) v xs)
    → HasOwnersOnAir old xs → HasOwnersOnAir new xs
told-set old new pid v xs is long within told before = λ k lt.
    by_test (pid == k)
    (λ y. subst (λ j. slice_index_or new j 0 < 255 → LeavesOutOnAir (IsBeside j) (slice_index_or new j 0) xs) (eqb-true pid k y)
    (subst (λ u. u < 255 → LeavesOutOnAir (IsBeside pid) u xs) (sym (ap (λ l. slice_index_or l pid 0) is ∙ get_or-set_same old pid v 0 (omega (arith, long, within)))) told))
    (λ n. let apart : k ≢ pid = (λ e. eqb-false pid k n (sym e)) in
    subst (λ u. u < 255 → LeavesOutOnAir (IsBeside k) u xs) (sym (ap (λ l. slice_index_or l k 0) is ∙ get_or-set_other old pid k v 0 apart)) (before k lt))

-- the first of some services, before the others
pub takes-more : (takers others : ℕ) (a : Airing) (more xs : List Airing) (pid : ℕ) → xs ≡ a ∷ more → takers / 2 ≡ others → (takers % 2 ≡ 0 → IsBeside pid a)
    → LeavesOutOnAir (IsBeside pid) others more → LeavesOutOnAir (IsBeside pid) takers xs
takes-more takers others a more xs pid parts half bit behind =
    subst (LeavesOutOnAir (IsBeside pid) takers) (sym parts) (bit, subst (λ n. LeavesOutOnAir (IsBeside pid) n more) (sym half) behind)

-- the next packet is settled, and no stretch begins with it
leaves-ahead : (takers : ℕ) (p : List ℕ) (pid : ℕ) (xs : List Airing) → list_any (begins_anew p) xs ≡ false → LeavesOutOnAir (IsBeside pid) takers xs → LeavesOutOnAir (IsBesideAhead pid) takers (nexts p xs)
leaves-ahead takers p pid [] none h = tt
leaves-ahead takers p pid (a ∷ xs) none h =
    let r = or_parts (begins_anew p a) (list_any (begins_anew p) xs) none in
    (λ bit. beside-ahead p a pid r.0 (h.0 bit), leaves-ahead (takers / 2) p pid xs r.1 h.1)

pub owners-ahead : (owners : List ℕ) (p : List ℕ) (xs : List Airing) → list_any (begins_anew p) xs ≡ false → HasOwnersOnAir owners xs → HasOwnersAhead owners (nexts p xs)
owners-ahead owners p xs none h = λ pid within below. leaves-ahead (slice_index_or owners pid 0) p pid xs none (h pid within below)

-- it has passed, and no PID more is known
leaves-behind : (takers pid : ℕ) (ys : List Airing) → list_any learns ys ≡ false → LeavesOutOnAir (IsBesideAhead pid) takers ys → LeavesOutOnAir (IsBeside pid) takers ys
leaves-behind takers pid [] none h = tt
leaves-behind takers pid (a ∷ ys) none h =
    let r = or_parts (learns a) (list_any learns ys) none in
    (λ bit. beside-behind a pid r.0 (h.0 bit), leaves-behind (takers / 2) pid ys r.1 h.1)

pub owners-behind : (owners : List ℕ) (ys : List Airing) → list_any learns ys ≡ false → HasOwnersAhead owners ys → HasOwnersOnAir owners ys
owners-behind owners ys none h = λ pid within below. leaves-behind (slice_index_or owners pid 0) pid ys none (h pid within below)

-- ---- the services that do not take a packet

-- whether the first one is left out
left-parts : (c d : Bool) → (not c && d) ≡ true → (c ≡ false) × (d ≡ true)
left-parts false d e = (refl, e)
left-parts true d e = absurd (cc)

left-whole : (c d : Bool) → c ≡ false → d ≡ true → (not c && d) ≡ true
left-whole c d e f = simp (e, f) refl

pub is-left : (r all : Bool) (takers : ℕ) → r ≡ (not all && (takers % 2 == 0)) → r ≡ true → (all ≡ false) × (takers % 2 ≡ 0)
is-left r all takers is y =
    let k = left-parts all (takers % 2 == 0) (sym is ∙ y) in (k.0, eqb-true (takers % 2) 0 k.1)

pub left-so : (r all : Bool) (takers : ℕ) → r ≡ (not all && (takers % 2 == 0)) → all ≡ false → takers % 2 ≡ 0 → r ≡ true
left-so r all takers is none bit = is ∙ left-whole all (takers % 2 == 0) none (ap (λ n. n == 0) bit)

pub may-first : (l : List AirService) (s : AirService) (ss : List AirService) (xs : List Airing) (a : Airing) (more : List Airing) (takers pid : ℕ) → l ≡ s ∷ ss → xs ≡ a ∷ more
    → MayAllStay takers l pid xs → (takers % 2 ≡ 0 → MayStay s pid a) × MayAllStay (takers / 2) ss pid more
may-first l s ss xs a more takers pid shape parts h =
    let k = subst (λ w. MayAllStay takers w pid (a ∷ more)) shape (subst (MayAllStay takers l pid) parts h) in
    (λ bit. (k.0.0 bit, k.1.0), (k.0.1, k.1.1))

pub left-first : (l : List AirService) (s : AirService) (ss : List AirService) (xs : List Airing) (a : Airing) (more : List Airing) (takers pid : ℕ) → l ≡ s ∷ ss → xs ≡ a ∷ more
    → AreLeftOut takers l pid xs → (takers % 2 ≡ 0 → IsLeftOut s pid a) × AreLeftOut (takers / 2) ss pid more
left-first l s ss xs a more takers pid shape parts h = subst (λ w. AreLeftOut takers w pid (a ∷ more)) shape (subst (AreLeftOut takers l pid) parts h)

-- the first one, where that is left out, and the others
pub record StayParts (r all : Bool) (takers pid : ℕ) (s : AirService) (ss : List AirService) (a : Airing) (more : List Airing) : Type 0 where
  pub first : r ≡ true → MayStay s pid a
  pub others : all ≡ false → MayAllStay (takers / 2) ss pid more

pub stay-parts : (r all : Bool) (takers pid : ℕ) (l : List AirService) (s : AirService) (ss : List AirService) (xs : List Airing) (a : Airing) (more : List Airing) → l ≡ s ∷ ss → xs ≡ a ∷ more
    → r ≡ (not all && (takers % 2 == 0)) → (all ≡ false → MayAllStay takers l pid xs) → StayParts r all takers pid s ss a more
stay-parts r all takers pid l s ss xs a more shape parts is may = record {
  first = λ y. let k = is-left r all takers is y in (may-first l s ss xs a more takers pid shape parts (may k.0)).0 k.1;
  others = λ none. (may-first l s ss xs a more takers pid shape parts (may none)).1;
}

pub record LeftParts (r all : Bool) (takers pid : ℕ) (s : AirService) (ss : List AirService) (a : Airing) (more : List Airing) : Type 0 where
  pub first : r ≡ true → IsLeftOut s pid a
  pub others : all ≡ false → AreLeftOut (takers / 2) ss pid more

pub left-apart : (r all : Bool) (takers pid : ℕ) (l : List AirService) (s : AirService) (ss : List AirService) (xs : List Airing) (a : Airing) (more : List Airing) → l ≡ s ∷ ss → xs ≡ a ∷ more
    → r ≡ (not all && (takers % 2 == 0)) → (all ≡ false → AreLeftOut takers l pid xs) → LeftParts r all takers pid s ss a more
left-apart r all takers pid l s ss xs a more shape parts is left = record {
  first = λ y. let k = is-left r all takers is y in (left-first l s ss xs a more takers pid shape parts (left k.0)).0 k.1;
  others = λ none. (left-first l s ss xs a more takers pid shape parts (left none)).1;
}

-- all left the packet judged
pub judged-first : (s : AirService) (ss : List AirService) (one more both : Bool) → both ≡ (one || more) → one ≡ s.is_unjudged → (more ≡ false → AllJudged ss) → both ≡ false → AllJudged (s ∷ ss)
judged-first s ss one more both is left others none = let r = or_parts one more (sym is ∙ none) in (sym left ∙ r.0, others r.1)

-- no stretch of one begins, and none of another
pub any-more : {A : Type 0} (f : A → Bool) (one more both : Bool) (a : A) (others xs : List A) → xs ≡ a ∷ others → both ≡ (one || more) → one ≡ f a → more ≡ list_any f others → both ≡ list_any f xs
any-more {A} f one more both a others xs parts is o m = is ∙ ap (λ b. b || more) o ∙ ap (λ b. f a || b) m ∙ sym (ap (λ (l : List A). list_any f l) parts)

-- ---- messages

asks-more : {M : Type 0} (j k : AirDesk M) (m : List ℕ) (ms : List (List ℕ)) (rs : List Reply) → JudgesAll AirDeskJudges j (m ∷ ms) rs k → k.asks_all ≡ true
asks-more j k m ms [] all = absurd all
asks-more {M} j k m [] (r ∷ []) all = let (i, one, more) = all in ap (λ (d : AirDesk M). d.asks_all) more ∙ one.asks
asks-more j k m [] (r ∷ q ∷ rs) all = let (i, one, more) = all in absurd more
asks-more j k m (n ∷ ms) (r ∷ rs) all = let (i, one, more) = all in asks-more i k n ms rs more

-- where none was judged nothing changed
pub none-judged : {M : Type 0} (j k : AirDesk M) (ms : List (List ℕ)) (rs : List Reply) → JudgesAll AirDeskJudges j ms rs k → k.asks_all ≡ false → k ≡ j
none-judged j k [] [] all quiet = all
none-judged j k [] (r ∷ rs) all quiet = absurd all
none-judged j k (m ∷ ms) rs all quiet = absurd (let no : true ≡ false = sym (asks-more j k m ms rs all) ∙ quiet in cc)

pub owners-stay : {M : Type 0} (j k : AirDesk M) (ms : List (List ℕ)) (rs : List Reply) → JudgesAll AirDeskJudges j ms rs k → k.owners ≡ j.owners
owners-stay {M} j k [] [] all = ap (λ (d : AirDesk M). d.owners) all
owners-stay j k [] (r ∷ rs) all = absurd all
owners-stay j k (m ∷ ms) [] all = absurd all
owners-stay j k (m ∷ ms) (r ∷ rs) all = let (i, one, more) = all in owners-stay i k ms rs more ∙ one.owners

pub heard-left : {M : Type 0} (j k : AirDesk M) (ms : List (List ℕ)) (rs : List Reply) (p : List ℕ) (ys : List Airing) → JudgesAll AirDeskJudges j ms rs k → DeskLeavesOut j p ys → DeskLeavesOut k p ys
heard-left {M} j k ms rs p ys all h = λ quiet. subst (λ (d : AirDesk M). DeskLeavesOut d p ys) (sym (none-judged j k ms rs all quiet)) h quiet

-- ---- what the table says of a packet

pub may-all : (owners : List ℕ) (takers pid : ℕ) (asks all : Bool) (ss : List AirService) (xs : List Airing) → takers ≡ slice_index_or owners pid 0 → pid < 8192 → (all ≡ false → asks ≡ false)
    → (all ≡ false → takers < 255) → HasOwnersOnAir owners xs → (asks ≡ false → AllJudged ss) → all ≡ false → MayAllStay takers ss pid xs
may-all owners takers pid asks all ss xs is within open_so told has judged none =
    (subst (λ n. LeavesOutOnAir (IsBeside pid) n xs) (sym is) (has pid within (subst (λ n. n < 255) is (told none))), judged (open_so none))

pub left-told : (owners : List ℕ) (takers pid : ℕ) (asks all : Bool) (ss : List AirService) (ys : List Airing) → takers ≡ slice_index_or owners pid 0 → (asks ≡ false → takers < 255 → all ≡ false)
    → (all ≡ false → AreLeftOut takers ss pid ys) → asks ≡ false → slice_index_or owners pid 0 < 255 → AreLeftOut (slice_index_or owners pid 0) ss pid ys
left-told owners takers pid asks all ss ys is not_all h = λ quiet below. subst (λ n. AreLeftOut n ss pid ys) is (h (not_all quiet (subst (λ n. n < 255) (sym is) below)))

pub left-all : (owners : List ℕ) (takers pid : ℕ) (asks all : Bool) (ss : List AirService) (ys : List Airing) → (asks ≡ false → takers ≡ slice_index_or owners pid 0) → (all ≡ false → asks ≡ false)
    → (all ≡ false → takers < 255) → (asks ≡ false → slice_index_or owners pid 0 < 255 → AreLeftOut (slice_index_or owners pid 0) ss pid ys) → all ≡ false → AreLeftOut takers ss pid ys
left-all owners takers pid asks all ss ys known open_so told left none =
    let is = known (open_so none) in subst (λ n. AreLeftOut n ss pid ys) (sym is) (left (open_so none) (subst (λ n. n < 255) is (told none)))

-- where one alone takes it, not all do
pub not-all : (count takers : ℕ) → IsShifted count 1 takers → takers < 256 → takers < 255
not-all zero takers one small = let e : 1 ≡ takers = one in omega (arith, e)
not-all (suc count) takers shifted small = let even = shifted.0 in omega (arith, even, small)

pub told-left : (owners : List ℕ) (takers count : ℕ) (ss : List AirService) (p : List ℕ) (ys : List Airing) → IsShifted count 1 takers → takers < 256
    → takers ≡ slice_index_or owners (pid_of p) 0 → (slice_index_or owners (pid_of p) 0 < 255 → AreLeftOut (slice_index_or owners (pid_of p) 0) ss (pid_of p) ys)
    → AreLeftOut takers ss (pid_of p) ys
told-left owners takers count ss p ys shifted small is left =
    subst (λ n. AreLeftOut n ss (pid_of p) ys) (sym is) (left (subst (λ n. n < 255) is (not-all count takers shifted small)))

-- ---- the packet is settled

pub settled-owners : {M : Type 0} (mid new : AirDesk M) (b : Bool) (p : List ℕ) (xs : List Airing) → (b ≡ true → AllTake new.owners × (new.asks_all ≡ true)) → (b ≡ false → new ≡ mid)
    → b ≡ list_any (begins_anew p) xs → HasOwnersOnAir mid.owners xs → HasOwnersAhead new.owners (nexts p xs)
settled-owners mid new true p xs anew same is has = all-take IsBesideAhead new.owners (nexts p xs) (anew refl).0
settled-owners {M} mid new false p xs anew same is has = subst (λ (d : AirDesk M). HasOwnersAhead d.owners (nexts p xs)) (sym (same refl)) (owners-ahead mid.owners p xs (sym is) has)

pub settled-left : {M : Type 0} (mid new : AirDesk M) (b : Bool) (p : List ℕ) (ys : List Airing) → (b ≡ true → AllTake new.owners × (new.asks_all ≡ true)) → (b ≡ false → new ≡ mid)
    → DeskLeavesOut mid p ys → DeskLeavesOut new p ys
settled-left mid new true p ys anew same h = λ quiet below. absurd (let no : true ≡ false = sym (anew refl).1 ∙ quiet in cc)
settled-left {M} mid new false p ys anew same h = subst (λ (d : AirDesk M). DeskLeavesOut d p ys) (sym (same refl)) h

pub settled-told : {M : Type 0} (mid new : AirDesk M) (b : Bool) (takers : ℕ) (p : List ℕ) → (b ≡ true → AllTake new.owners × (new.asks_all ≡ true)) → (b ≡ false → new ≡ mid)
    → takers ≡ slice_index_or mid.owners (pid_of p) 0 → StillTold new takers p
settled-told mid new true takers p anew same is = λ quiet. absurd (let no : true ≡ false = sym (anew refl).1 ∙ quiet in cc)
settled-told {M} mid new false takers p anew same is = λ quiet. subst (λ (d : AirDesk M). takers ≡ slice_index_or d.owners (pid_of p) 0) (sym (same refl)) is

-- the services stay, and what answers the messages for none
pub moved-gone : {M : Type 0} (new : AirDesk M) (items : List AirService) (none : Requests) (ts : List ServiceTerms) (gs : List Gone) → new.services.items ≡ items → new.none ≡ none → AllGone items ts gs
    → AnswersNone none ts → DeskGone new ts gs
moved-gone new items none ts gs services is all answers = record {
  all = subst (λ l. AllGone l ts gs) (sym services) all;
  none = subst (λ w. AnswersNone w ts) (sym is) answers;
}
