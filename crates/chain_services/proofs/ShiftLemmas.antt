-- Services that take a packet, behind some that do not: these add nothing, and nothing changes for them.
use Rattle.std.proofs.Common.{◌≡◌, ◌≤◌, ◌%◌, ◌/◌, ◌^◌, ℕ, zero, suc, length, take, drop, List, [], ◌∷◌, ◌++◌, Bool, ◌||◌, refl, sym, ap, subst, ◌∙◌, arith}
use Rattle.std.specs.Prelude.{if◌then◌else◌, Result, Ok, Err, IfOk, IfErr}
use Rattle.std.specs.Int.Count.{count_trailing_zeros, under}
use Rattle.std.specs.Option.{option_or}
use Rattle.std.proofs.Math.Nat.{div-div-eq-div-mul}
use Rattle.std.proofs.lemmas.List.{take-append-drop}
use Rattle.wire_fields.specs.Numbers.{AreBytes}
use Rattle.ts_packet.specs.declared.sink.PutFault.{PutFault}
use Rattle.psi_tables.specs.declared.network.FeedFault.{FeedFault}
use Rattle.psi_tables.specs.declared.network.FeedFault.TheVariants.{Network, Sink, Failed}
use Rattle.ad_library.specs.declared.library.AdLibrary.{AdLibrary}
use Rattle.outgoing_packets.specs.Numbers.{FrontFails}
use Rattle.injector.specs.Steps.{Step, Packet, packets_in}
use Rattle.chain_engine.specs.Passing.{chain_at}
use Rattle.chain_engine.specs.declared.service.Service.{Service}
use Rattle.service_laws.specs.Messages.{own_steps}
use Rattle.service_laws.specs.Services.{ServiceTerms, configs_of}
use Rattle.service_laws.specs.Faults.{services_fault}
use Rattle.chain_services.specs.Owners.{AreSkipped, IsShifted}
use Rattle.chain_services.specs.Serving.{AllServe, FiledAs}
use Rattle.chain_services.specs.Parts.{one_owns, parts_of, AllKnowSame, PassedEach, FailedEach, FrontIsOut}
use Rattle.chain_services.proofs.PartLemmas.{serves_packet, none_at}
use Rattle.chain_services.proofs.UnfollowedLemmas.{not-own, knows-same, skipped-by}

-- of the digits below the lowest set one
under_set : (d t count : ℕ) → suc count ≤ under d t → (d ≡ 0) × (count ≤ t)
under_set zero t count h = (refl, omega (arith, h))
under_set (suc d) t count h = absurd (omega (arith, h))

-- so many of the lowest digits are not set
pub shifted-by : (k count takers : ℕ) → count ≤ count_trailing_zeros k takers → IsShifted count (takers / 2 ^ count) takers
unfolding count_trailing_zeros
shifted-by k zero takers h = grind arith
shifted-by zero (suc count) takers h = absurd (omega (arith, h))
shifted-by (suc k) (suc count) takers h =
    let u = under_set (takers % 2) (count_trailing_zeros k (takers / 2)) count h in
    let e : takers / 2 / 2 ^ count ≡ takers / 2 ^ suc count = div-div-eq-div-mul takers 2 (2 ^ count) ∙ ap (λ n. takers / n) (grind arith) in
    (u.0, subst (λ n. IsShifted count n (takers / 2)) e (shifted-by k count (takers / 2) u.1))

-- a list in two parts
pub whole-of : {A : Type 0} (n : ℕ) (l front back : List A) → front ≡ take n l → back ≡ drop n l → l ≡ front ++ back
whole-of n l front back f b = sym (ap (λ k. k ++ back) f ∙ ap (λ k. take n l ++ k) b ∙ take-append-drop n l)

-- what is so of the services behind a front of these
pub record BehindFront {A : Type 0} (libraries : List (AdLibrary A)) (front back : List Service) (left : ℕ) (ts : List ServiceTerms) (p : List ℕ) (steps : List Step) : Type 0 where
  pub us : List ServiceTerms
  pub filed : FiledAs libraries us
  pub serve : AllServe back us steps
  pub skip : AreSkipped left us p steps
  pub parts : parts_of ts p steps ≡ parts_of us p steps
  pub own : one_owns ts p (packets_in steps) ≡ one_owns us p (packets_in steps)
  pub known : AllKnowSame us p (packets_in steps) → AllKnowSame ts p (packets_in steps)
  pub serves : (new : List Service) → AllServe new us (Packet p ∷ steps) → AllServe (front ++ new) ts (Packet p ∷ steps)
  pub fault : services_fault (configs_of ts) p (packets_in steps) ≡ services_fault (configs_of us) p (packets_in steps)

pub behind-front : {A : Type 0} (lfront lback : List (AdLibrary A)) (front back : List Service) (ts : List ServiceTerms) (p : List ℕ) (steps : List Step) (left takers : ℕ) → length lfront ≡ length front
    → IsShifted (length front) left takers → AreBytes p → FiledAs (lfront ++ lback) ts → AllServe (front ++ back) ts steps → AreSkipped takers ts p steps
    → BehindFront lback front back left ts p steps
behind-front [] lback [] back ts p steps left takers same shifted bytes filed all skip = record {
  us = ts;
  filed = filed;
  serve = all;
  skip = subst (λ n. AreSkipped n ts p steps) (sym shifted) skip;
  parts = refl;
  own = refl;
  known = λ k. k;
  serves = λ new h. h;
  fault = refl;
}
behind-front (l ∷ lfront) lback [] back ts p steps left takers same shifted bytes filed all skip = absurd (omega (arith, same))
behind-front [] lback (s ∷ front) back ts p steps left takers same shifted bytes filed all skip = absurd (omega (arith, same))
behind-front (l ∷ lfront) lback (s ∷ front) back [] p steps left takers same shifted bytes filed all skip = absurd all
behind-front (l ∷ lfront) lback (s ∷ front) back (t ∷ ts) p steps left takers same shifted bytes filed all skip =
    let past = packets_in steps in
    let u = skip.1.0 shifted.0 in
    let serves = serves_packet s s t p steps all.0 (skipped-by s t p steps all.0 bytes (skip.0, u)).stands in
    let n = not-own t p past u in
    let r = behind-front lfront lback front back ts p steps left (takers / 2) (omega (arith, same)) shifted.1 bytes filed.1 all.1 (skip.0, skip.1.1) in
    record {
      us = r.us;
      filed = r.filed;
      serve = r.serve;
      skip = r.skip;
      parts = ap (λ b. (if b then chain_at t.config t.filed p (own_steps t.config.index steps) else []) ++ parts_of ts p steps) n ∙ r.parts;
      own = ap (λ b. b || one_owns ts p past) n ∙ r.own;
      known = λ k. (knows-same t p past u, r.known k);
      serves = λ new h. (serves, r.serves new h);
      fault = ap (λ o. option_or o (services_fault (configs_of ts) p past)) (none_at s t p steps serves) ∙ r.fault;
    }

-- so what passed through these passed through all
module _ {A : Type 0} (libraries : List (AdLibrary A)) (front back : List Service) (left : ℕ) (ts : List ServiceTerms) (p : List ℕ) (steps : List Step) (w : BehindFront libraries front back left ts p steps) where
  pub passed-behind : (is_own learns : Bool) (new : List Service) (is_out : List (List ℕ) → Type 0) → PassedEach is_own learns new w.us p steps is_out → PassedEach is_own learns (front ++ new) ts p steps is_out
  passed-behind is_own learns new is_out h = record {
    owns_it = h.owns_it ∙ sym w.own;
    still = λ quiet. w.known (h.still quiet);
    serve = w.serves new h.serve;
    out = subst is_out (sym w.parts) h.out;
  }

  pub failed-behind : (f : FeedFault) (is_out : List (List ℕ) → Type 0) (fails : List (List ℕ) → List ℕ → PutFault → Type 0)
      → FailedEach f w.us p steps (parts_of w.us p steps) is_out fails → FailedEach f ts p steps (parts_of ts p steps) is_out fails
  failed-behind (Network f) is_out fails h = (w.fault ∙ h.0, subst (λ l. FrontIsOut l is_out) (sym w.parts) h.1)
  failed-behind (Sink x) is_out fails h = subst (λ l. FrontFails l (λ put q. fails put q x)) (sym w.parts) h
  failed-behind Failed is_out fails h = absurd h

-- what follows from what is said of an answer
pub if-ok : {T E : Type 0} (r : Result T E) (P Q : T → Type 0) → ((x : T) → P x → Q x) → IfOk r P → IfOk r Q
if-ok (Ok x) P Q so h = so x h
if-ok (Err e) P Q so h = tt

pub if-err : {T E : Type 0} (r : Result T E) (P Q : E → Type 0) → ((e : E) → P e → Q e) → IfErr r P → IfErr r Q
if-err (Ok x) P Q so h = tt
if-err (Err e) P Q so h = so e h
