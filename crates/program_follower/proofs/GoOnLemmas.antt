-- A packet of a switched stream that has a payload, and with which nothing is wrong.
use Rattle.std.proofs.Common.{◌≡◌, ◌<◌, ◌≤◌, ◌+◌, arith, ℕ, List, [], ◌∷◌, Bool, true, false, not, ◌&&◌, if◌then◌else◌, refl, sym, ap, subst, ◌∙◌, Option, Some, None}
use Rattle.std.specs.Prelude.{ℤ, is_none, is_some, option_map, slice_index_or}
use Rattle.std.specs.Option.{option_or}
use Rattle.std.proofs.Math.Bool.{and-false}
use Rattle.std.proofs.lemmas.Bool.{and_parts}
use Rattle.ts_packet.specs.Fields.{in_error, pid_of, on, payload, payload_on, scrambled, unit_start}
use Rattle.ts_packet.specs.Duplicates.{original}
use Rattle.ts_packet.proofs.Cases.{by_test}
use Rattle.unit_stream.specs.Times.{begins, high, splits, stamp}
use Rattle.unit_stream.specs.Faults.{start_fault, unit_fault}
use Rattle.program_follower.specs.declared.purpose.Listed.{Listed}
use Rattle.program_follower.specs.declared.purpose.Purpose.{Purpose}
use Rattle.program_follower.specs.declared.pid_uses.PidUse.TheVariants.{Table, Other}
use Rattle.program_follower.specs.declared.starts.Starts.{Starts}
use Rattle.program_follower.specs.Program.{listed, first_map, tables, known_map, program_in, program_of, pids_of}
use Rattle.program_follower.specs.Streaming.{StartsRead, is_clear, first_on, place_in, IsOfStarts}
use Rattle.program_follower.specs.declared.starts.StartPacket.{StartPacket}
use Rattle.program_follower.specs.declared.starts.StartPacket.TheVariants.{Start, NoStart}
use Rattle.program_follower.specs.declared.starts.StreamPart.{StreamPart}
use Rattle.unit_stream.specs.declared.clock.Begun.{Begun}
use Rattle.unit_stream.specs.Clocks.{Tells, way_from}
use Rattle.program_follower.specs.PidUses.{IsUse, HasUses}
use Rattle.program_follower.specs.Following.{Since, IsPartOf}
use Rattle.psi_tables.specs.ProgramMap.{ProgramMap}
use Rattle.program_follower.proofs.OptionLemmas.{option_or-none}
use Rattle.program_follower.proofs.StreamLemmas.{fault_begin, payload_of, some_is}
use Rattle.program_follower.proofs.StepLemmas.{known_grows, listed_stays}
use Rattle.program_follower.proofs.PlaceLemmas.{no_place}
use Rattle.program_follower.proofs.UseLemmas.{use_apart, use_numbered}

-- ---- what such a packet is

not-true : (b : Bool) → not b ≡ true → b ≡ false
not-true true h = absurd (cc)
not-true false h = refl

module _ (p : List ℕ) (clear : is_clear p ≡ true) where
  clear-parts : (not (scrambled p) ≡ true) × (is_some (payload p) ≡ true)
  clear-parts = and_parts (not (scrambled p)) (is_some (payload p)) clear

  pub clear-payload : (pid : ℕ) → on pid p ≡ true → payload_on pid p ≡ true
  clear-payload pid here = payload_of pid p here ∙ clear-parts.1

  pub clear-open : (pid : ℕ) → payload_on pid p && scrambled p ≡ false
  clear-open pid = ap (λ b. payload_on pid p && b) (not-true (scrambled p) clear-parts.0) ∙ and-false (payload_on pid p)

pub clear-of : (p : List ℕ) → scrambled p ≡ false → is_some (payload p) ≡ true → is_clear p ≡ true
clear-of p s y = rw (s, y) refl

pub unstarted-begins-none : (p : List ℕ) (pid : ℕ) (past : List (List ℕ)) → unit_start p ≡ false → begins pid p past ≡ false
unstarted-begins-none p pid past none = ap (λ b. original pid p past && b) none ∙ and-false (original pid p past)

pub unstarted-sound : (p : List ℕ) (pids : List ℕ) (past : List (List ℕ)) (x : ℕ × ℕ) → is_clear p ≡ true → unit_start p ≡ false → first_on pids p ≡ Some x
    → unit_fault pids p past ≡ None
unstarted-sound p pids past x clear none e =
    fault_begin pids p past x e None (clear-open p clear x.1) (ap (λ b. if b then start_fault (high pids past) (splits p) (stamp p) else None) (unstarted-begins-none p x.1 past none))

-- ---- it is that alone to its stream

begun_of : ℕ → ℤ → Begun
begun_of pts way = record { pts = pts; way = way }

same-pts : (x y : ℕ) → Some x ≡ Some y → x ≡ y
same-pts x y e = cc

told-one : (a b : Option Begun) (h : Option ℤ) (s : Option ℕ) → Tells a h s → Tells b h s → a ≡ b
unfolding begun_of
told-one None None h s x y = refl
told-one None (Some b) h s x y = absurd (let e = sym x ∙ y.0 in cc)
told-one (Some a) None h s x y = absurd (let e = sym y ∙ x.0 in cc)
told-one (Some a) (Some b) h s x y =
    let t : a.pts ≡ b.pts = same-pts a.pts b.pts (sym x.0 ∙ y.0) in
    let w : a.way ≡ b.way = x.1 ∙ ap (way_from h) t ∙ sym y.1 in
    ap (λ (n : ℕ). Some (begun_of n a.way)) t ∙ ap (λ (z : ℤ). Some (begun_of b.pts z)) w

same_pid : (i : ℕ) (pids : List ℕ) (p : List ℕ) (a b : ℕ) → first_on pids p ≡ Some (i, a) → first_on pids p ≡ Some (i, b) → a ≡ b
same_pid i pids p a b h k = ap (λ (z : ℕ × ℕ). z.1) (some_is (i, a) (i, b) (sym h ∙ k))

pub one-part : (a b : StartPacket) (i : ℕ) (pids : List ℕ) (p : List ℕ) (past : List (List ℕ)) → IsOfStarts (Some (i, a)) pids p past → IsOfStarts (Some (i, b)) pids p past → a ≡ b
one-part (Start a) (Start b) i pids p past x y = ap Start (told-one a b (high pids past) (stamp p) x.1.1.1 y.1.1.1)
one-part NoStart NoStart i pids p past x y = refl
one-part (Start a) NoStart i pids p past x y = absurd (let e = same_pid i pids p x.0 y.0 x.1.0 y.1.0 in let z = sym x.1.1.0 ∙ ap (λ pid. begins pid p past) e ∙ y.1.1 in cc)
one-part NoStart (Start b) i pids p past x y = absurd (let e = same_pid i pids p y.0 x.0 y.1.0 x.1.0 in let z = sym y.1.1.0 ∙ ap (λ pid. begins pid p past) e ∙ x.1.1 in cc)

part_at : ℕ → StartPacket → StreamPart
part_at stream part = record { stream = stream; part = part }

pub one-of : (x : StreamPart) (i : ℕ) (part : StartPacket) (pids : List ℕ) (p : List ℕ) (past : List (List ℕ)) → Some x.stream ≡ place_in pids p → Some i ≡ place_in pids p
    → IsOfStarts (Some (x.stream, x.part)) pids p past → IsOfStarts (Some (i, part)) pids p past → Some (record { stream = i; part = part }) ≡ Some x
unfolding part_at
one-of x i part pids p past here at is here-is =
    let e : i ≡ x.stream = same-pts i x.stream (at ∙ sym here) in
    let same : part ≡ x.part = one-part part x.part i pids p past here-is (subst (λ n. IsOfStarts (Some (n, x.part)) pids p past) (sym e) is) in
    ap (λ n. Some (part_at n part)) e ∙ ap (λ y. Some (part_at x.stream y)) same

-- ---- nothing is wrong with it

pub no-fault : {A : Type 0} (o : Option A) → true ≡ is_none o → o ≡ None
no-fault None h = refl
no-fault (Some a) h = absurd (cc)

pub fault-told : {A : Type 0} (o : Option A) → false ≡ is_none o → o ≡ None → ⊥
fault-told o h none = let e = h ∙ ap is_none none in cc

-- ---- under which number it is looked up

pub part-good : (pids : List ℕ) (p : List ℕ) (stream : ℕ) → Some stream ≡ place_in pids p → in_error p ≡ false
part-good pids p stream here = by_test (in_error p) (λ bad. absurd (let none = no_place pids p bad in cc)) (λ good. good)

module _ (numbers : List ℕ) (c : Purpose) (p : List ℕ) (past : List (List ℕ)) (has : HasUses numbers c past) (within : pid_of p < 8192)
    (x : StreamPart) (m : IsPartOf c x p past) where
  more-number : slice_index_or numbers (pid_of p) 0 ≡ x.stream + 1
  more-number = use_numbered numbers c p past has x.stream within (part-good (pids_of (program_of c.program past)) p x.stream m.here) m.elsewhere m.here

  more-apart : slice_index_or numbers (pid_of p) 0 ≤ 8
  more-apart = use_apart numbers c p past has within (part-good (pids_of (program_of c.program past)) p x.stream m.here) m.elsewhere

  pub no-table : IsUse Table (slice_index_or numbers (pid_of p) 0) → ⊥
  no-table above = let below = more-apart in absurd (omega arith)

  pub no-other : IsUse Other (slice_index_or numbers (pid_of p) 0) → ⊥
  no-other zero = let some = more-number in absurd (omega arith)

-- ---- a map is known behind the PAT alone

known-by : (wanted : Option ℕ) (past : List (List ℕ)) (m : ProgramMap) → known_map wanted past ≡ Some m → is_some (listed wanted past) ≡ true
known-by wanted [] m h = absurd (cc)
known-by wanted (p ∷ past) m h = by (listed wanted past) refl (λ k. known-by wanted past m k) where
  by : (o : Option Listed) → listed wanted past ≡ o → (known_map wanted past ≡ Some m → is_some (listed wanted past) ≡ true)
      → is_some (listed wanted (p ∷ past)) ≡ true
  by (Some l) e before = ap is_some (listed_stays wanted p past l e)
  by None e before =
      let none : first_map (tables wanted p past) ≡ None = simp e refl in
      let at : known_map wanted past ≡ Some m = sym (option_or-none (known_map wanted past)) ∙ ap (option_or (known_map wanted past)) (sym none) ∙ sym (known_grows wanted p past) ∙ h in
      absurd (let z = sym (ap is_some e) ∙ before at in cc)

-- where streams are followed
pub streams-listed : (s : Starts) (wanted : Option ℕ) (past b : List (List ℕ)) → Since StartsRead (Some s) (program_of wanted past) b → is_some (listed wanted past) ≡ true
streams-listed s wanted past b h = by (known_map wanted past) refl h where
  by : (o : Option ProgramMap) → known_map wanted past ≡ o → Since StartsRead (Some s) (program_of wanted past) b → is_some (listed wanted past) ≡ true
  by (Some m) e k = known-by wanted past m e
  by None e k = absurd (subst (λ x. Since StartsRead (Some s) (option_map program_in x) b) e k)
