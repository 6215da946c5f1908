-- What is known in time is what counts.
use Rattle.std.specs.Prelude.{ℤ, ◌≤ℤ◌, Contains, slice_index_or, length, zero, suc, ◌<◌}
use Rattle.std.specs.Int.{int_max}
use Rattle.std.proofs.Common.{◌≡◌, ℕ, List, [], ◌∷◌, Bool, true, false, not, ◌&&◌, ◌||◌, inl, inr, refl, sym, ap, Option, None, Some, arith, ◌⊎◌, ◌∙◌}
use Rattle.std.proofs.lemmas.Int.{ints}
use Rattle.ts_packet.proofs.Cases.{by_test}
use Rattle.unit_stream.specs.Times.{begins, begins_one, stamp, timed, raised, high, unit_time}
use Rattle.splice_laws.specs.Splicing.{PlayedEvent, at_or_past, holds, break_stands, begun, TimedStream, opens, comes}
use Rattle.splice_laws.specs.Laws.{Risen, IsStream}
use Rattle.splice_laws.specs.Settled.{ending, holds_now, stands_now, begun_now, IsAhead, IsSettled, FlagsSettle, HoldsSettle, SwitchedPidsNeverPassHigh, NeverPassesHigh, IsForgotten}
use Rattle.splice_laws.proofs.PidLemmas.{raised-risen}

-- a time below the start
pub early : (x : PlayedEvent) (t h : Option ℤ) → Risen t h → IsAhead h x.start → at_or_past x.start t ≡ false
early x None h w a = refl
early x (Some t) None w a = absurd w
early x (Some t) (Some h) w a = grind (arith, ints)

pub early-out : (x : PlayedEvent) (t : Option ℤ) → at_or_past x.start t ≡ false → holds x t ≡ false
early-out x None a = refl
early-out x (Some t) a = grind (arith, ints)

-- a time below both ends
held : (x : PlayedEvent) (stop : ℤ) (t h : Option ℤ) → Risen t h → IsAhead h x.stop → x.stop ≤ℤ stop → holds (ending x stop) t ≡ holds x t
held x stop None h w a l = refl
held x stop (Some t) None w a l = absurd w
held x stop (Some t) (Some h) w a l = grind (arith, ints)

pub holds-settled : (x : PlayedEvent) (known t h : Option ℤ) → Risen t h → IsSettled x known h → holds_now x known t ≡ holds x t
holds-settled x None t h w k = sym (early-out x t (early x t h w k))
holds-settled x (Some stop) t h w (inl e) = rw e refl
holds-settled x (Some stop) t h w (inr k) = held x stop t h w k.0 k.1

stood : (x : PlayedEvent) (stop : ℤ) (h h' : Option ℤ) → Risen h h' → IsAhead h' x.stop → x.stop ≤ℤ stop → break_stands (ending x stop) h ≡ break_stands x h
stood x stop None h' w a l = refl
stood x stop (Some h) None w a l = absurd w
stood x stop (Some h) (Some h') w a l = grind (arith, ints)

-- where the unit comes, whether the event stands
stands-settled : (x : PlayedEvent) (known t h h' : Option ℤ) (b : Bool) → Risen t h' → Risen h h' → IsSettled x known h' → (b && at_or_past x.start t) && stands_now x known h ≡ (b && at_or_past x.start t) && break_stands x h
stands-settled x None t h h' b w g k = let e = early x t h' w k in none b _ _ e where
  none : (b a s : Bool) → a ≡ false → (b && a) && false ≡ (b && a) && s
  none true a s e = rw e refl
  none false a s e = refl
stands-settled x (Some stop) t h h' b w g (inl e) = rw e refl
stands-settled x (Some stop) t h h' b w g (inr k) = ap (λ s. (b && at_or_past x.start t) && s) (stood x stop h h' g k.0 k.1)

-- whether the packet begins the event, and whether it begins a unit outside it
opens-now : (r : TimedStream) → IsStream r → NeverPassesHigh r → (x : PlayedEvent) (known : Option ℤ) (p : List ℕ) (past : List (List ℕ)) → IsSettled x known (r.high (p ∷ past)) ⊎ IsForgotten r x known p past →
    comes r x.start p past && stands_now x known (r.high past) ≡ opens r x p past
opens-now r k w x known p past (inl s) = stands-settled x known (r.time (p ∷ past)) (r.high past) (r.high (p ∷ past)) (r.begins p past) (w (p ∷ past)) (k.rises p past) s
opens-now r k w x known p past (inr f) = ap (λ (a : Option ℤ). comes r x.start p past && stands_now x a (r.high past)) f.unknown ∙ ap (λ b. comes r x.start p past && b) (sym f.stands_not)

leaves-now : (r : TimedStream) → NeverPassesHigh r → (x : PlayedEvent) (known : Option ℤ) (p : List ℕ) (past : List (List ℕ)) → IsSettled x known (r.high (p ∷ past)) ⊎ IsForgotten r x known p past →
    r.begins p past && not (holds_now x known (r.time (p ∷ past))) ≡ r.begins p past && not (holds x (r.time (p ∷ past)))
leaves-now r w x known p past (inl s) = ap (λ b. r.begins p past && not b) (holds-settled x known (r.time (p ∷ past)) (r.high (p ∷ past)) (w (p ∷ past)) s)
leaves-now r w x known p past (inr f) =
    ap (λ (a : Option ℤ). r.begins p past && not (holds_now x a (r.time (p ∷ past)))) f.unknown ∙ out (r.begins p past) (holds x (r.time (p ∷ past))) f.holds_not where
      out : (a b : Bool) → (a ≡ true → b ≡ false) → a && not false ≡ a && not b
      out true b e = let f = e refl in rw f refl
      out false b e = refl

pub flags_settle : FlagsSettle
flags_settle r k w x known [] s = (refl, refl)
flags_settle r k w x known (p ∷ past) s =
    let i = flags_settle r k w x known past s.1 in
    let o = opens-now r k w x (known (p ∷ past)) p past s.0 in
    let h = leaves-now r w x (known (p ∷ past)) p past s.0 in
    let b : begun_now r x known (p ∷ past) ≡ begun r x (p ∷ past) = both_or _ _ _ _ i.0 o in
    (b, more _ _ _ _ _ _ i.1 b h) where
      both_or : (a b c d : Bool) → a ≡ b → c ≡ d → a || c ≡ b || d
      both_or a b c d e f = rw (e, f) refl

      more : (c c' b b' h h' : Bool) → c ≡ c' → b ≡ b' → h ≡ h' → c || (b && h) ≡ c' || (b' && h')
      more c c' b b' h h' e f g = rw (e, f, g) refl

pub holds_settle : HoldsSettle
holds_settle r w x known past s = holds-settled x known (r.time past) (r.high past) (w past) s

-- ---- PIDs

pub risen-trans : (a b c : Option ℤ) → Risen a b → Risen b c → Risen a c
risen-trans None b c h k = tt
risen-trans (Some a) None c h k = absurd h
risen-trans (Some a) (Some b) None h k = absurd k
risen-trans (Some a) (Some b) (Some c) h k = grind (arith, ints)

max-above : (a b : ℤ) → b ≤ℤ int_max a b
max-above a b = grind (arith, ints)

same : (a : ℤ) → a ≤ℤ a
same a = grind (arith, ints)

-- a unit that begins raises the greatest time to its own
timed-risen : (h : Option ℤ) (s : Option ℕ) (before : Option ℤ) → Risen before h → Risen (timed h s before) (raised h s)
timed-risen h None before w = w
timed-risen None (Some t) before w = same _
timed-risen (Some h) (Some t) before w = max-above h _

pub begins-among : (sw : List ℕ) (pid : ℕ) → Contains sw pid → (p : List ℕ) (past : List (List ℕ)) → begins pid p past ≡ true → begins_one sw p past ≡ true
begins-among sw pid c p past b = at sw c.0 c.1 c.2 where
  or_left : (a b : Bool) → a ≡ true → a || b ≡ true
  or_left a b h = rw h refl

  or_right : (a b : Bool) → b ≡ true → a || b ≡ true
  or_right true b h = refl
  or_right false b h = h

  at : (sw : List ℕ) (i : ℕ) → i < length sw → slice_index_or sw i pid ≡ pid → begins_one sw p past ≡ true
  at [] i l e = absurd (omega arith)
  at (q ∷ qs) zero l e = or_left (begins q p past) _ (rw e b)
  at (q ∷ qs) (suc i) l e = or_right (begins q p past) _ (at qs i (omega arith) e)

within : (sw : List ℕ) (pid : ℕ) → Contains sw pid → (past : List (List ℕ)) → Risen (unit_time sw pid past) (high sw past)
within sw pid c [] = tt
within sw pid c (p ∷ past) =
    let i = within sw pid c past in
    by_test (begins pid p past)
    (λ b. let o = begins-among sw pid c p past b in simp (b, o) (timed-risen (high sw past) (stamp p) (unit_time sw pid past) i))
    (λ b. by_test (begins_one sw p past)
    (λ o. simp (b, o) (risen-trans _ _ _ i (raised-risen (high sw past) (stamp p))))
    (λ o. simp (b, o) i))

pub switched_pids_are_within : SwitchedPidsNeverPassHigh
switched_pids_are_within sw pid c past = within sw pid c past
