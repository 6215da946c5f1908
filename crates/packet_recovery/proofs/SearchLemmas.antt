-- What a search holds, and what it has left out, read by read.
use Rattle.std.proofs.Common.{◌≡◌, ◌≢◌, ℕ, zero, suc, ◌+◌, ◌*◌, ◌-◌, ◌/◌, ◌%◌, ◌^◌, ◌<◌, ◌≤◌, ◌==◌, List, [], ◌∷◌, ◌++◌, Bool, true, false, ◌&&◌, ◌||◌, if◌then◌else◌, nat_lt, nat_le, Option, None, Some, ◌⊎◌, inl, inr, arith, length, take, drop, get_or, refl, sym, ap, ◌∙◌, subst, append_assoc, length-append, length-take-le, take-append-drop}
use Rattle.std.specs.Prelude.{min, Result, Ok, Err, IfOk}
use Rattle.std.specs.Io.{ReadsAtMost}
use Rattle.std.proofs.lemmas.Bool.Decides.{nat_tests}
use borrow.Rule.Slice.PartMut.{put_mid}
use Rattle.ts_packet.proofs.TransferLemmas.{take-filled}
use Rattle.ts_packet.specs.declared.device.DeviceFault.{DeviceFault}
use Rattle.ts_packet.specs.declared.device.DeviceFault.TheVariants.{Interrupted}
use Rattle.std.specs.Io.KnownBytes.{Consumes, IsAtEnd, Keeps, prepend_known, ReadConsumes}
use Rattle.std.proofs.KnownBytes.{Consumes-trans, Consumes-kept}
use Rattle.std.proofs.lemmas.List.{append-nil, get_or_append_left, get_or-take, get_or-drop}
use Rattle.ts_packet.proofs.Cases.{by_test}
use Rattle.ts_packet.proofs.CountLemmas.{well-refl, well-trans}
use Rattle.ts_packet.specs.declared.tally.Tally.{Tally}
use Rattle.ts_packet.specs.Transfers.{Rose, WentWell, IsCounted}
use Rattle.packet_recovery.specs.Framing.{begins_with_sync, resumes, resumed, framed}
use Rattle.packet_recovery.specs.declared.search.Step.{Step}
use Rattle.packet_recovery.specs.Reading.{Stepped, takes_few, StepCounts, WasReadBehind, capped, Searching, Missed, most_turns}
use Rattle.packet_recovery.proofs.FramingLemmas.{resumed-le, resumed-skip, no_sync, framed-short, sync-take}

-- what the loop of a search keeps
pub record Hunt (start now : Option (List ℕ)) (w : List ℕ) (held loose turns call before after : ℕ) (old new : Tally) : Type 0 where
  pub out : List ℕ
  pub searching : Searching start now out (take held w) before after
  pub size : length w ≡ 189
  pub within : held ≤ 188
  pub few_loose : loose < 188
  pub loose_out : loose ≤ length out
  pub in_turn : turns < 2 ^ 20
  pub in_call : turns ≤ call
  pub rose : Rose call old.calls new.calls
  pub called : new.calls ≤ old.calls + call
  pub few : new.calls ≤ old.calls + (2 ^ 20 * ((length out - loose) / 188) + turns)
  pub well : WentWell old new

-- ---- one read

pub behind : (r : Result ℕ DeviceFault) (old new : Option (List ℕ)) (w buf : List ℕ) (held : ℕ) → length w ≡ 189 → held < 189 → length buf ≡ 189 - held → ReadsAtMost r buf
    → ReadConsumes old new r buf → IfOk r (λ n. WasReadBehind old new (take held w) (take (held + n) (put_mid held (189 - held) w buf)) n)
behind (Err e) old new w buf held size below room bound bytes = tt
behind (Ok n) old new w buf held size below room bound bytes = record {
  more = take n buf;
  grown = take-filled held (189 - held) n w buf (omega (arith, size, below)) bound.0;
  size = length-take-le n buf bound.0;
  bytes = bytes.0;
  end = λ e. bytes.1 e (omega (arith, room, below));
}

-- ---- what is passed on

not_here : (b : ℕ) (bs : List ℕ) → (b ≡ 71 → ⊥) → begins_with_sync (b ∷ bs) ≡ false
not_here b bs h = grind (arith, nat_tests, h)

-- bytes that are no sync byte are passed on
pub skips : (r : ℕ) (xs behind : List ℕ) → r ≤ length xs → ((k : ℕ) → k < r → get_or xs k 0 ≡ 71 → ⊥) → resumed (xs ++ behind) ≡ resumed (drop r xs ++ behind)
skips zero xs behind h none = refl
skips (suc r) [] behind h none = absurd (grind (arith, h))
skips (suc r) (x ∷ xs) behind h none =
    resumed-skip x (xs ++ behind) (no_sync (x ∷ (xs ++ behind)) (not_here x (xs ++ behind) (none 0 (omega arith))))
    ∙ skips r xs behind (grind (arith, h)) (λ k l. none (suc k) (omega (arith, l)))

-- a byte behind which sync does not go on is passed on, and then those
pub skips_first : (r : ℕ) (xs behind : List ℕ) → 0 < r → r ≤ length xs → resumes (xs ++ behind) ≡ false → ((k : ℕ) → 1 ≤ k → k < r → get_or xs k 0 ≡ 71 → ⊥)
    → resumed (xs ++ behind) ≡ resumed (drop r xs ++ behind)
skips_first zero xs behind p h f none = absurd (omega (arith, p))
skips_first (suc r) [] behind p h f none = absurd (grind (arith, h))
skips_first (suc r) (x ∷ xs) behind p h f none =
    resumed-skip x (xs ++ behind) f ∙ skips r xs behind (grind (arith, h)) (λ k l. none (suc k) (omega arith) (omega (arith, l)))

is_at : (a b : ℕ) → (a == b) ≡ true → a ≡ b
is_at a b h = grind (arith, nat_tests, h)

not_at : (a b : ℕ) → b < a → (a == b) ≡ false
not_at a b h = grind (arith, nat_tests, h)

cut_off : (s l e t : Bool) → e ≡ false → (s ≡ true → t ≡ true → ⊥) → (s && (l && (e || t))) ≡ false
cut_off false l e t h f = refl
cut_off true false e t h f = refl
cut_off true true true t h f = absurd (cc)
cut_off true true false false h f = refl
cut_off true true false true h f = absurd (f refl refl)

-- 189 bytes that do not begin two packets
refused : (w bh : List ℕ) (held : ℕ) → length w ≡ 189 → held ≤ 189 → 189 ≤ held → (get_or w 0 0 ≡ 71 → get_or w 188 0 ≡ 71 → ⊥) → resumes (take held w ++ bh) ≡ false
unfolding resumes
refused w bh held size within full none =
    let l = length-append (take held w) bh in
    let t : length (take held w) ≡ held = length-take-le held w (omega (arith, size, within)) in
    let first : get_or (take held w ++ bh) 0 0 ≡ get_or w 0 0 = get_or_append_left (take held w) bh 0 0 (omega (arith, t, full)) ∙ get_or-take held w 0 0 (omega (arith, full)) in
    let next : get_or (drop 188 (take held w ++ bh)) 0 0 ≡ get_or w 188 0 =
    get_or-drop 188 (take held w ++ bh) 0 0 ∙ get_or_append_left (take held w) bh 0 188 (omega (arith, t, full)) ∙ get_or-take held w 188 0 (omega (arith, full)) in
    cut_off (begins_with_sync (take held w ++ bh)) (nat_le 188 (length (take held w ++ bh))) (length (take held w ++ bh) == 188) (begins_with_sync (drop 188 (take held w ++ bh)))
    (not_at (length (take held w ++ bh)) 188 (omega (arith, l, t, full)))
    (λ s y. none (sym first ∙ is_at _ 71 s) (sym next ∙ is_at _ 71 y))

pub pass_some : (w : List ℕ) (held r : ℕ) → length w ≡ 189 → held ≤ 189 → r ≤ held → ((k : ℕ) → 0 ≤ k → k < r → get_or w k 0 ≡ 71 → ⊥)
    → (bh : List ℕ) → resumed (take held w ++ bh) ≡ resumed (drop r (take held w) ++ bh)
pass_some w held r size below within none bh =
    let t : length (take held w) ≡ held = length-take-le held w (omega (arith, size, below)) in
    skips r (take held w) bh (omega (arith, t, within)) (λ k l e. none k (omega arith) l (sym (get_or-take held w k 0 (omega (arith, l, within))) ∙ e))

pub pass_first : (w : List ℕ) (held r : ℕ) → length w ≡ 189 → held ≤ 189 → 189 ≤ held → r ≤ held → 1 ≤ r → ((k : ℕ) → 1 ≤ k → k < r → get_or w k 0 ≡ 71 → ⊥)
    → (get_or w 0 0 ≡ 71 → get_or w 188 0 ≡ 71 → ⊥) → (bh : List ℕ) → resumed (take held w ++ bh) ≡ resumed (drop r (take held w) ++ bh)
pass_first w held r size below full within some none next bh =
    let t : length (take held w) ≡ held = length-take-le held w (omega (arith, size, below)) in
    skips_first r (take held w) bh (omega (arith, some)) (omega (arith, t, within)) (refused w bh held size below full next)
    (λ k s l e. none k s l (sym (get_or-take held w k 0 (omega (arith, l, within))) ∙ e))

-- ---- what a search has left out, and holds

module _ (start : Option (List ℕ)) (before : ℕ) where
  -- nothing more is held
  pub kept : (old new : Option (List ℕ)) (out h g : List ℕ) (s : ℕ) → Searching start old out h before s → Keeps old new → g ≡ h → Searching start new out g before s
  kept old new out h g s w k e = subst (λ x. Searching start new out x before s) (sym e) (record {
    bytes = Consumes-kept start old new (out ++ h) w.bytes k;
    goes_on = w.goes_on;
    count = w.count;
  })

  -- a read brought more
  pub grown : (old new : Option (List ℕ)) (out h g : List ℕ) (s n : ℕ) → Searching start old out h before s → WasReadBehind old new h g n → Searching start new out g before s
  grown old new out h g s n w r = subst (λ x. Searching start new out x before s) (sym r.grown) (record {
    bytes = subst (Consumes start new) (append_assoc out h r.more) (Consumes-trans start old new (out ++ h) r.more w.bytes r.bytes);
    goes_on = λ bh.
        ap (λ l. resumed (drop 1 l)) (ap (λ l. l ++ bh) (sym (append_assoc out h r.more)) ∙ append_assoc (out ++ h) r.more bh)
        ∙ w.goes_on (r.more ++ bh) ∙ ap resumed (sym (append_assoc h r.more bh));
    count = w.count;
  })

  pub grown_as : (old new : Option (List ℕ)) (out h g x : List ℕ) (s n : ℕ) → Searching start old out h before s → WasReadBehind old new h g n → g ≡ x → Searching start new out x before s
  grown_as old new out h g x s n w r e = subst (λ l. Searching start new out l before s) e (grown old new out h g s n w r)

  capped_twice : (a b n k : ℕ) → a ≡ min (n + b) (2 ^ 64 - 1) → min (a + k) (2 ^ 64 - 1) ≡ min (n + (b + k)) (2 ^ 64 - 1)
  capped_twice a b n k e = omega (arith, e)

  length-out : (out h : List ℕ) (r : ℕ) → r ≤ length h → length (out ++ take r h) ≡ length out + r
  length-out out h r l = length-append out (take r h) ∙ ap (λ n. length out + n) (length-take-le r h l)

  -- the first of those held are left out
  pub left_out : (now : Option (List ℕ)) (out h g : List ℕ) (s t r : ℕ) → Searching start now out h before s → r ≤ length h → ((bh : List ℕ) → resumed (h ++ bh) ≡ resumed (drop r h ++ bh))
      → g ≡ drop r h → t ≡ min (s + r) (2 ^ 64 - 1) → Searching start now (out ++ take r h) g before t
  left_out now out h g s t r w l on e c =
      let parts : (out ++ take r h) ++ drop r h ≡ out ++ h = append_assoc out (take r h) (drop r h) ∙ ap (λ x. out ++ x) (take-append-drop r h) in
      subst (λ x. Searching start now (out ++ take r h) x before t) (sym e) (record {
        bytes = subst (Consumes start now) (sym parts) w.bytes;
        goes_on = λ bh. ap (λ x. resumed (drop 1 (x ++ bh))) parts ∙ w.goes_on bh ∙ on bh;
        count = c ∙ capped_twice s (length out) before r w.count ∙ ap (λ n. min (before + n) (2 ^ 64 - 1)) (sym (length-out out h r l));
      })

  no_more : (h : List ℕ) → length h ≤ 188 → (length h ≡ 188 → begins_with_sync h ≡ true → ⊥) → framed (resumed h) ≡ []
  no_more [] l f = let r = resumed-le [] in framed-short (resumed []) (grind (arith, r))
  no_more (b ∷ h) l f = by_test (begins_with_sync (b ∷ h))
      (λ y. let r = resumed-le (b ∷ h) in let n : length (b ∷ h) ≢ 188 = λ e. f e y in framed-short (resumed (b ∷ h)) (omega (arith, r, l, n)))
      (λ y. ap framed (resumed-skip b h (no_sync (b ∷ h) y)) ∙ (let r = resumed-le h in framed-short (resumed h) (grind (arith, r, l))))

  -- the end, and what is held is no packet
  pub ends_nowhere : (now : Option (List ℕ)) (out h : List ℕ) (s t r : ℕ) → Searching start now out h before s → IsAtEnd now → length h ≤ 188 → (length h ≡ 188 → begins_with_sync h ≡ true → ⊥)
      → r ≡ length h → t ≡ min (s + r) (2 ^ 64 - 1)
      → (more : List ℕ) × Consumes start now more × IsAtEnd now × (framed (resumed (drop 1 more)) ≡ []) × (t ≡ capped (before + length more))
  ends_nowhere now out h s t r w e l f size c = (
    out ++ h,
    w.bytes,
    e,
    ap framed (ap (λ x. resumed (drop 1 x)) (sym (append-nil (out ++ h))) ∙ w.goes_on [] ∙ ap resumed (append-nil h)) ∙ no_more h l f,
    c ∙ capped_twice s (length out) before r w.count ∙ ap (λ n. min (before + n) (2 ^ 64 - 1)) (ap (λ n. length out + n) size ∙ sym (length-append out h)),
  )

-- ---- one byte more

pub take-one_more : (n : ℕ) (xs : List ℕ) → n < length xs → take (suc n) xs ≡ take n xs ++ get_or xs n 0 ∷ []
take-one_more n [] h = absurd (grind (arith, h))
take-one_more zero (x ∷ xs) h = refl
take-one_more (suc n) (x ∷ xs) h = ap (λ l. x ∷ l) (take-one_more n xs (grind (arith, h)))

pub begins : (w : List ℕ) → get_or w 0 0 ≡ 71 → begins_with_sync (take 188 w) ≡ true
begins w h = sync-take w ∙ ap (λ n. n == 71) h

pub begins_not : (w : List ℕ) (n : ℕ) → 0 < n → begins_with_sync (take n w) ≡ true → get_or w 0 0 ≡ 71
begins_not w n p h = sym (get_or-take n w 0 0 p) ∙ is_at (get_or (take n w) 0 0) 71 h

pub followed : (v w : List ℕ) (n : ℕ) → v ≡ w → n ≡ 189 → length w ≡ 189 → get_or w 188 0 ≡ 71 → take n w ≡ take 188 v ++ 71 ∷ []
followed v w n e k size h =
    ap (λ m. take m w) k ∙ take-one_more 188 w (omega (arith, size)) ∙ ap (λ x. take 188 w ++ x ∷ []) h ∙ ap (λ x. take 188 x ++ 71 ∷ []) (sym e)

-- ---- the loop

first_skip : (w bh : List ℕ) → 0 < length w → begins_with_sync w ≡ false → resumed (drop 1 (w ++ bh)) ≡ resumed (w ++ bh)
first_skip [] bh p h = absurd (grind (arith, p))
first_skip (b ∷ r) bh p h = sym (resumed-skip b (r ++ bh) (no_sync (b ∷ (r ++ bh)) h))

all_held : (w : List ℕ) (left : Option (List ℕ)) → Consumes (prepend_known w left) left w
all_held w None = tt
all_held w (Some xs) = refl

at_first : (n : ℕ) → n < 2 ^ 64 → n ≡ min (n + 0) (2 ^ 64 - 1)
at_first n h = omega (arith, h)

pub hunt_none : (left : Option (List ℕ)) (w : List ℕ) (before : ℕ) (a : Tally) → length w ≡ 189 → begins_with_sync w ≡ false → before < 2 ^ 64
    → Hunt (prepend_known (take 188 w) left) left w 188 0 0 0 before before a a
hunt_none left w before a size h low =
    let long : length (take 188 w) ≡ 188 = length-take-le 188 w (omega (arith, size)) in
    record {
      out = [];
      searching = record {
        bytes = all_held (take 188 w) left;
        goes_on = λ bh. first_skip (take 188 w) bh (omega (arith, long)) (sync-take w ∙ h);
        count = at_first before low;
      };
      size = size;
      within = omega arith;
      few_loose = omega arith;
      loose_out = omega arith;
      in_turn = omega arith;
      in_call = omega arith;
      rose = inl (omega arith);
      called = omega arith;
      few = omega arith;
      well = well-refl a;
    }

pub missed : (start now : Option (List ℕ)) (out h : List ℕ) (before s : ℕ) → Searching start now out h before s → length h ≤ 188 → Missed start now before s
missed start now out h before s w l = (out, h, w.bytes, l, w.count)

-- how many calls that were
most : (t : Bool) (a b n : ℕ) → (t ≡ true → n ≤ a) → (t ≡ false → n ≤ b) → n ≤ (if t then a else b)
most true a b n h k = h refl
most false a b n h k = k refl

apart : (a b : ℕ) → (a == b) ≡ false → a ≢ b
apart a b h = grind (arith, nat_tests, h)

added : (n k m : ℕ) → n ≤ k → m + n ≤ m + k
added n k m h = omega (arith, h)

pub few_calls : (before middle after out loose turns call first now last : ℕ) → middle ≡ min (before + out) (2 ^ 64 - 1) → middle ≤ after → after < 2 ^ 64 → loose ≤ out → turns < 2 ^ 20
    → now ≤ first + call → now ≤ first + (2 ^ 20 * ((out - loose) / 188) + turns) → call < 2 ^ 64 → last ≤ now + 1 → last ≤ first + most_turns before after
few_calls before middle after out loose turns call first now last count later low l t c f k n =
    let rise = most (after == 2 ^ 64 - 1) (2 ^ 64) (2 ^ 20 * (1 + (after - before) / 188)) (last - first)
    (λ y. omega (arith, c, k, n))
    (λ y. let e = apart after (2 ^ 64 - 1) y in
    let under : middle < 2 ^ 64 - 1 = omega (arith, e, later, low) in
    let all : middle ≡ before + out = omega (arith, under, count) in
    let parts : (out - loose) / 188 ≤ (after - before) / 188 = omega (arith, all, later) in
    omega (arith, parts, f, t, n)) in
    omega (arith, rise)

counted_one : (b c : ℕ) → IsCounted b c → c ≤ b + 1
counted_one b c k = by_test (nat_lt b (2 ^ 64 - 1)) (λ y. let e = k.0 (grind (arith, nat_tests, y)) in omega (arith, e)) (λ y. let e = k.1 (grind (arith, nat_tests, y)) in omega (arith, e))

rose_more : (n a b c : ℕ) → Rose n a b → IsCounted b c → Rose (n + 1) a c
rose_more n a b c (inl h) k =
    by_test (nat_lt b (2 ^ 64 - 1)) (λ y. let e = k.0 (grind (arith, nat_tests, y)) in inl (omega (arith, e, h))) (λ y. let l : 2 ^ 64 - 1 ≤ b = grind (arith, nat_tests, y) in let e = k.1 l in inr (omega (arith, e, l)))
rose_more n a b c (inr h) k = let e = k.1 h in inr (omega (arith, e, h))

pub rose_less : (n m a b : ℕ) → m ≤ n → Rose n a b → Rose m a b
rose_less n m a b l (inl h) = inl (omega (arith, l, h))
rose_less n m a b l (inr h) = inr h

-- how the turns are counted
abbrev pub Turned : ℕ → ℕ → ℕ → ℕ → Type 0
Turned loose loose' turns turns' =
    ((188 ≤ loose) × (loose' ≡ loose % 188) × (turns' ≡ 0)) ⊎ ((loose < 188) × (loose' ≡ loose) × (turns' ≡ turns + 1) × (turns' ≢ 2 ^ 20))

parts_more : (out loose n : ℕ) → loose ≤ out → 188 ≤ loose + n → (out - loose) / 188 + 1 ≤ (out + n - (loose + n) % 188) / 188
parts_more out loose n l h = omega (arith, l, h)

few_more : (out loose n loose' turns turns' a b c : ℕ) → loose ≤ out → turns < 2 ^ 20 → b ≤ a + (2 ^ 20 * ((out - loose) / 188) + turns) → c ≤ b + 1 → Turned (loose + n) loose' turns turns'
    → c ≤ a + (2 ^ 20 * ((out + n - loose') / 188) + turns')
few_more out loose n loose' turns turns' a b c l t h k (inl e) = let p = parts_more out loose n l e.0 in rw (e.1, e.2) (omega (arith, p, h, k, t))
few_more out loose n loose' turns turns' a b c l t h k (inr e) = let p : (out + n - loose') / 188 ≡ (out - loose) / 188 = let g = e.1 in omega (arith, l, g) in let g = e.2 in omega (arith, p, h, k, g)

loose_fits : (loose n loose' turns turns' : ℕ) → Turned (loose + n) loose' turns turns' → loose' < 188
loose_fits loose n loose' turns turns' (inl e) = let g = e.1 in omega (arith, g)
loose_fits loose n loose' turns turns' (inr e) = let g = e.1 in let f = e.0 in omega (arith, f, g)

loose_within : (out loose n loose' turns turns' : ℕ) → loose ≤ out → Turned (loose + n) loose' turns turns' → loose' ≤ out + n
loose_within out loose n loose' turns turns' l (inl e) = let g = e.1 in omega (arith, l, g)
loose_within out loose n loose' turns turns' l (inr e) = let g = e.1 in omega (arith, l, g)

turns_low : (loose loose' turns turns' : ℕ) → turns < 2 ^ 20 → Turned loose loose' turns turns' → turns' < 2 ^ 20
turns_low loose loose' turns turns' t (inl e) = let g = e.2 in omega (arith, g)
turns_low loose loose' turns turns' t (inr e) = let g = e.2 in let f = e.3 in omega (arith, t, g, f)

turns_call : (loose loose' turns turns' call : ℕ) → turns ≤ call → Turned loose loose' turns turns' → turns' ≤ call + 1
turns_call loose loose' turns turns' call t (inl e) = let g = e.2 in omega (arith, g)
turns_call loose loose' turns turns' call t (inr e) = let g = e.2 in omega (arith, t, g)

-- a read more, and its turn
pub hunt_on : (start now now' : Option (List ℕ)) (w w' : List ℕ) (held held' loose loose' turns turns' call before s s' n : ℕ) (a b c : Tally)
    (h : Hunt start now w held loose turns call before s a b) (out' : List ℕ) → Searching start now' out' (take held' w') before s' → length w' ≡ 189 → held' ≤ 188
    → length out' ≡ length h.out + n → n ≤ 189 → IsCounted b.calls c.calls → WentWell b c → Turned (loose + n) loose' turns turns'
    → Hunt start now' w' held' loose' turns' (call + 1) before s' a c
hunt_on start now now' w w' held held' loose loose' turns turns' call before s s' n a b c h out' g size within long few k well t =
    let one = counted_one b.calls c.calls k in
    let called = h.called in
    let f = few_more (length h.out) loose n loose' turns turns' a.calls b.calls c.calls h.loose_out h.in_turn h.few one t in
    let l = loose_within (length h.out) loose n loose' turns turns' h.loose_out t in
    record {
      out = out';
      searching = g;
      size = size;
      within = within;
      few_loose = loose_fits loose n loose' turns turns' t;
      loose_out = omega (arith, l, long);
      in_turn = turns_low (loose + n) loose' turns turns' h.in_turn t;
      in_call = turns_call (loose + n) loose' turns turns' call h.in_call t;
      rose = rose_more call a.calls b.calls c.calls h.rose k;
      called = omega (arith, one, called);
      few = subst (λ m. c.calls ≤ a.calls + (2 ^ 20 * ((m - loose') / 188) + turns')) (sym long) f;
      well = well-trans a b c h.well well;
    }

pub hunt_few : (start now : Option (List ℕ)) (w : List ℕ) (held loose turns call before s after : ℕ) (a b c : Tally) → Hunt start now w held loose turns call before s a b
    → s ≤ after → after < 2 ^ 64 → call < 2 ^ 64 - 1 → IsCounted b.calls c.calls → c.calls ≤ a.calls + most_turns before after
hunt_few start now w held loose turns call before s after a b c h later low n k =
    few_calls before s after (length h.out) loose turns call a.calls b.calls c.calls h.searching.count later low h.loose_out h.in_turn h.called h.few (omega (arith, n)) (counted_one b.calls c.calls k)

pub hunt_missed : (start now : Option (List ℕ)) (w : List ℕ) (held loose turns call before s : ℕ) (a b : Tally) → Hunt start now w held loose turns call before s a b → Missed start now before s
hunt_missed start now w held loose turns call before s a b h =
    let within = h.within in
    let size = h.size in
    let l = length-take-le held w (omega (arith, within, size)) in
    missed start now h.out (take held w) before s h.searching (omega (arith, l, within))

pub missed_at : (start now : Option (List ℕ)) (out w : List ℕ) (held before s : ℕ) → Searching start now out (take held w) before s → length w ≡ 189 → held ≤ 188 → Missed start now before s
missed_at start now out w held before s g size within =
    let l = length-take-le held w (omega (arith, within, size)) in
    missed start now out (take held w) before s g (omega (arith, l, within))

-- what is said of a step that is this one
pub stepped_is : (x y : Step) (start now : Option (List ℕ)) (out w : List ℕ) (held before after : ℕ) → x ≡ y → Stepped x start now out w held before after → Stepped y start now out w held before after
stepped_is x y start now out w held before after e h = subst (λ z. Stepped z start now out w held before after) e h

pub few_is : (x y : Step) → x ≡ y → takes_few x → takes_few y
few_is x y e h = subst takes_few e h

pub counts_is : (x y : Step) (a b : Tally) → x ≡ y → StepCounts (Ok x) a b → StepCounts (Ok y) a b
counts_is x y a b e h = subst (λ z. StepCounts (Ok z) a b) e h

pub waited : (x : DeviceFault) (a b : Tally) → x ≡ Interrupted → StepCounts (Err x) a b → WentWell a b
waited x a b e h = subst (λ z. StepCounts (Err z) a b) e h
