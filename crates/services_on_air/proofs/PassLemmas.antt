-- All services, packet by packet.
use Rattle.std.proofs.Common.{◌≡◌, ℕ, suc, ◌+◌, List, [], ◌∷◌, length, Bool, true, false, refl, sym, ap, subst, ◌∙◌, arith}
use Rattle.std.specs.Prelude.{map, min, if◌then◌else◌}
use Rattle.std.specs.List.{list_any}
use Rattle.psi_section.specs.Assembling.{capped}
use Rattle.psi_tables.specs.declared.config.Config.{Config}
use Rattle.scte104_codec.specs.declared.reply.Reply.{Reply}
use Rattle.chain_engine.specs.Judging.{JudgesAll}
use Rattle.chain_engine.specs.Talks.{TalkStandsFor}
use Rattle.chain_engine.specs.declared.talk.Talk.{Talk}
use Rattle.services_on_air.specs.Airing.{Airing, begins, next_of, nexts, learns, is_left, parted_from, parted, settled, airings, count_if, unjudged_among, one_if_some}
use Rattle.services_on_air.specs.Standing.{AllStand, AllSettled, AirDeskJudges, DeskJudged, AirServicesStandFor, HavePassed}
use Rattle.services_on_air.specs.Owners.{HasOwnersOnAir}
use Rattle.services_on_air.specs.declared.service.Passed.{Passed}
use Rattle.services_on_air.specs.declared.desk.AirDesk.{AirDesk}
use Rattle.services_on_air.specs.declared.services.AirServices.{AirServices}

-- ---- as many as there are configurations

map-long : {A B : Type 0} (f : A → B) (xs : List A) → length (map f xs) ≡ length xs
map-long f [] = refl
map-long f (x ∷ xs) = ap suc (map-long f xs)

parted-long : (xs : List Airing) → length (parted xs) ≡ length xs
parted-long [] = refl
parted-long (a ∷ xs) = ap suc (map-long (parted_from a) (parted xs) ∙ parted-long xs)

settled-long : (xs : List Airing) → length (settled xs) ≡ length xs
settled-long xs = by_learnt (list_any learns xs) where
  by_learnt : (b : Bool) → length (if b then parted xs else xs) ≡ length xs
  by_learnt true = parted-long xs
  by_learnt false = refl

pub airings-long : (cs : List Config) (past : List (List ℕ)) → length (airings cs past) ≡ length cs
airings-long cs [] = map-long begins cs
airings-long cs (p ∷ past) = settled-long (nexts p (airings cs past)) ∙ map-long (next_of p) (airings cs past) ∙ airings-long cs past

pub nexts-long : (cs : List Config) (p : List ℕ) (past : List (List ℕ)) → length (nexts p (airings cs past)) ≡ length cs
nexts-long cs p past = map-long (next_of p) (airings cs past) ∙ airings-long cs past

-- ---- messages

pub asked-all : {M : Type 0} (j k : AirDesk M) (ms : List (List ℕ)) (rs : List Reply) (p : List ℕ) (xs : List Airing) → JudgesAll AirDeskJudges j ms rs k
    → AllSettled j.services.items p xs → AllSettled k.services.items p xs
asked-all {M} j k [] [] p xs all h = subst (λ (d : AirDesk M). AllSettled d.services.items p xs) (sym all) h
asked-all j k [] (r ∷ rs) p xs all h = absurd all
asked-all j k (m ∷ ms) [] p xs all h = absurd all
asked-all j k (m ∷ ms) (r ∷ rs) p xs all h = let (i, one, more) = all in asked-all i k ms rs p xs more (one.goes p xs h)

-- ---- the count of a packet

one-more : (n k : ℕ) → n ≡ capped k → capped (n + 1) ≡ capped (suc k)
one-more n k e = grind arith

counted-if : (b left : Bool) (n k : ℕ) → b ≡ left → n ≡ capped k → (if b then capped (n + 1) else n) ≡ capped (k + count_if left)
counted-if b left n k is e = subst (λ d. (if d then capped (n + 1) else n) ≡ capped (k + count_if left)) (sym is) (by_left left) where
  by_left : (d : Bool) → (if d then capped (n + 1) else n) ≡ capped (k + count_if d)
  by_left true = let more : capped (n + 1) ≡ capped (k + 1) = grind arith in more
  by_left false = let same : n ≡ capped (k + 0) = grind arith in same

pub picked-then : {A : Type 0} (P : A → Type 0) (b : Bool) (x y : A) → b ≡ true → P x → P (if b then x else y)
picked-then P b x y is h = subst (λ d. P (if d then x else y)) (sym is) h

pub picked-else : {A : Type 0} (P : A → Type 0) (b : Bool) (x y : A) → b ≡ false → P y → P (if b then x else y)
picked-else P b x y is h = subst (λ d. P (if d then x else y)) (sym is) h

pub stands-next : {M : Type 0} (mid counted now : AirServices M) (cs : List Config) (p : List ℕ) (past : List (List ℕ)) (passed : Passed) → HavePassed mid cs p past passed
    → counted.packets ≡ capped (mid.packets + 1) → counted.unjudged ≡ (if passed.is_unjudged then capped (mid.unjudged + 1) else mid.unjudged)
    → counted.talk ≡ mid.talk → counted.desk ≡ mid.desk
    → ((xs : List Airing) → AllStand counted.desk.services.items xs → AllStand now.desk.services.items (if passed.learns then parted xs else xs))
    → ((xs : List Airing) → AllStand counted.desk.services.items xs → (passed.learns ≡ false → HasOwnersOnAir counted.desk.owners xs)
    → HasOwnersOnAir now.desk.owners (if passed.learns then parted xs else xs))
    → (DeskJudged counted.desk → DeskJudged now.desk)
    → now.talk ≡ counted.talk → now.packets ≡ counted.packets → now.unjudged ≡ counted.unjudged → AirServicesStandFor now cs (p ∷ past)
stands-next {M} mid counted now cs p past passed h packets unjudged talk desk parts owns judges talk' packets' unjudged' =
    let xs = nexts p (airings cs past) in
    let all = subst (λ (d : AirDesk M). AllStand d.services.items xs) (sym desk) h.all in
    record {
      ts = h.ts;
      n = h.n;
      k = h.k;
      talks = subst (λ (t : Talk M). TalkStandsFor t h.ts h.n h.k) (sym (talk' ∙ talk)) h.talks;
      all = subst (λ b. AllStand now.desk.services.items (if b then parted xs else xs)) h.is.learns
          (parts xs all);
      packets = packets' ∙ packets ∙ one-more mid.packets (length past) h.packets;
      unjudged = unjudged' ∙ unjudged ∙ counted-if passed.is_unjudged (is_left p xs) mid.unjudged (unjudged_among cs past) h.is.unjudged h.unjudged;
      owners = subst (λ b. HasOwnersOnAir now.desk.owners (if b then parted xs else xs)) h.is.learns
          (owns xs all (λ still. subst (λ (d : AirDesk M). HasOwnersOnAir d.owners xs) (sym desk) (h.owners still)));
      judged = judges (subst (λ (d : AirDesk M). DeskJudged d) (sym desk) h.judged);
    }

-- ---- the count of stretches

pub stretches-told : (past : List (List ℕ)) (begun n one all b : ℕ) → begun ≡ capped b → n ≡ capped (length past) → one ≡ min n 1 → all ≡ capped (begun + one)
    → all ≡ capped (b + one_if_some past)
stretches-told [] begun n one all b e f g h = let so : all ≡ capped (b + 0) = none f in so where
  none : n ≡ capped 0 → all ≡ capped (b + 0)
  none k = grind arith
stretches-told (p ∷ past) begun n one all b e f g h = some f where
  some : n ≡ capped (suc (length past)) → all ≡ capped (b + 1)
  some k = grind arith
