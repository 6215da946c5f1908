-- An assembler's steps.
use Rattle.std.proofs.Common.{◌≡◌, ℕ, ◌+◌, ◌*◌, ◌<◌, ◌≤◌, inl, inr, List, [], ◌∷◌, Bool, true, false, not, ◌&&◌, if◌then◌else◌, None, Some, refl, sym, ap, subst, ◌∙◌, arith, length, take, drop, is_some, zero-add, ◌==◌, ◌%◌, nat_le, nat_lt}
use Rattle.std.proofs.lemmas.Bool.{eq-eqb, eqb-true, ltb-false, leb-false}
use Rattle.std.specs.Prelude.{filter, count_by}
use Rattle.std.proofs.lemmas.List.{length-drop}
use Rattle.std.proofs.lemmas.List.Recursion.{is_count_by}
use Rattle.ts_packet.specs.Fields.{in_error, pid_of, payload, payload_on, on, bytes, or_none, adaptation_control, adaptation_length}
use Rattle.ts_packet.specs.Duplicates.{repeats, last_of, repeats_last}
use Rattle.ts_packet.proofs.Cases.{by_test}
use Rattle.ts_packet.proofs.FieldLemmas.{off_payload}
use Rattle.ts_packet.proofs.HistoryLemmas.{walk_is_last}
use Rattle.psi_section.specs.declared.front.Front.TheVariants.{Nothing, Whole, Part}
use Rattle.psi_section.specs.declared.assembler.Assembler.{Assembler}
use Rattle.psi_section.specs.Sections.{front_by, front_of, Assembled, taken, with_section, packet_taken, held, given, failed, is_good, is_bad}
use Rattle.psi_section.specs.Storing.{content}
use Rattle.psi_section.specs.Assembling.{IsOf, IsPart, Waits, StillGives, capped, left}
use Rattle.psi_section.proofs.FrontLemmas.{whole_first, part_alone, nothing_alone}

-- ---- a packet and its payload

payload-error : (p : List ℕ) → in_error p ≡ true → payload p ≡ None
unfolding payload
payload-error p e = simp e

pub payload_on-of : (pid : ℕ) (p : List ℕ) → IsOf pid p → payload_on pid p ≡ is_some (payload p)
unfolding payload_on on
payload_on-of pid p h =
    by_test (in_error p)
    (λ e. let n = payload-error p e in simp (e, n))
    (λ e. let q : (pid_of p == pid) ≡ true = eq-eqb (pid_of p) pid (h e) in simp (e, q))

pub bytes-some : (p bs : List ℕ) → Some bs ≡ payload p → bs ≡ bytes p
unfolding bytes
bytes-some p bs h = ap or_none h

pub payload-size : (p bs : List ℕ) → length p ≡ 188 → Some bs ≡ payload p → length bs ≤ 184
unfolding payload
payload-size p bs l h =
    by_test (in_error p)
    (λ e. absurd (let k = simp e at h in cc))
    (λ e. by_test (adaptation_control p == 1)
    (λ f. let k : Some bs ≡ Some (drop 4 p) = simp (e, f) at h in let m : bs ≡ drop 4 p = cc in rw (m, length-drop 4 p) (omega arith))
    (λ f. by_test (adaptation_control p == 3 && nat_le (adaptation_length p) 182)
    (λ g. let k : Some bs ≡ Some (drop (5 + adaptation_length p) p) = simp (e, f, g) at h in let m : bs ≡ drop (5 + adaptation_length p) p = cc in rw (m, length-drop (5 + adaptation_length p) p) (omega arith))
    (λ g. absurd (let k = simp (e, f, g) at h in cc))))

-- ---- what a part takes

pub ready_taken : (bs : List ℕ) → IsPart bs → taken bs ≡ record { finished = []; part = bs }
ready_taken bs (inl e) = ap taken e ∙ ap (λ x. record { finished = []; part = x }) (sym e)
ready_taken bs (inr h) = part_alone bs h

sized_part : (size have : ℕ) → front_by (Some size) have ≡ Part → have ≤ 4096
sized_part size have h =
    by_test (nat_lt 4096 size)
    (λ y. absurd (let e = simp y at h in cc))
    (λ y. by_test (nat_le size have)
    (λ z. absurd (let e = simp (y, z) at h in cc))
    (λ z. let a : size ≤ 4096 = ltb-false 4096 size y in let b : have < size = leb-false size have z in omega arith))

front_part : (bs : List ℕ) → front_of bs ≡ Part → length bs ≤ 4096
front_part [] h = absurd (cc)
front_part (x ∷ []) h = omega arith
front_part (x ∷ y ∷ []) h = omega arith
front_part (x ∷ y ∷ z ∷ bs) h =
    by_test (x == 0xFF)
    (λ s. absurd (let e = simp s at h in cc))
    (λ s. sized_part (y % 16 * 256 + z + 3) (length (x ∷ y ∷ z ∷ bs)) (simp s at h))

pub part_size : (bs : List ℕ) → IsPart bs → length bs ≤ 4096
part_size bs (inl e) = rw e (omega arith)
part_size bs (inr h) = front_part bs h

-- ---- one packet more

module _ (a b : Assembler) (pid : ℕ) (p : List ℕ) (past : List (List ℕ)) (h : Waits a pid past) where
  pub passes_over : payload_on pid p ≡ false → StillGives a pid (p ∷ past) (given pid p past)
  passes_over y =
      let t = ready_taken (content a.store) h.ready in
      record {
        last = simp y h.last;
        part = simp y (ap (λ (x : Assembled). x.part) t ∙ h.part);
        todo_left = simp y (ap (λ (x : Assembled). filter is_good x.finished) t);
        counted = failed pid past;
        all = simp y (ap (λ (x : Assembled). count_by is_bad x.finished + failed pid past) t);
        bad = h.bad;
      }

  pub passes_repeat : payload_on pid p ≡ true → repeats_last p a.last ≡ true → b.last ≡ Some (record { packet = p; is_repeat = true }) → b.store ≡ a.store → b.bad ≡ a.bad
      → StillGives b pid (p ∷ past) (given pid p past)
  passes_repeat y r l s n =
      let w : repeats pid p past ≡ true = walk_is_last pid p past ∙ ap (repeats_last p) (sym h.last) ∙ r in
      let t : taken (content b.store) ≡ record { finished = []; part = content a.store } = ap (λ x. taken (content x)) s ∙ ready_taken (content a.store) h.ready in
      record {
        last = simp (y, w) l;
        part = simp (y, w) (ap (λ (x : Assembled). x.part) t ∙ h.part);
        todo_left = simp (y, w) (ap (λ (x : Assembled). filter is_good x.finished) t);
        counted = failed pid past;
        all = simp (y, w) (ap (λ (x : Assembled). count_by is_bad x.finished + failed pid past) t);
        bad = n ∙ h.bad;
      }

  pub takes_in : payload_on pid p ≡ true → repeats_last p a.last ≡ false → b.last ≡ Some (record { packet = p; is_repeat = false })
      → taken (content b.store) ≡ packet_taken p a.last (content a.store) → b.bad ≡ a.bad → StillGives b pid (p ∷ past) (given pid p past)
  takes_in y r l s n =
      let w : repeats pid p past ≡ false = walk_is_last pid p past ∙ ap (repeats_last p) (sym h.last) ∙ r in
      let t : taken (content b.store) ≡ packet_taken p (last_of pid past) (held pid past) = s ∙ ap (λ x. packet_taken p x (content a.store)) h.last ∙ ap (packet_taken p (last_of pid past)) h.part in
      record {
        last = simp (y, w) l;
        part = simp (y, w) (ap (λ (x : Assembled). x.part) t);
        todo_left = simp (y, w) (ap (λ (x : Assembled). filter is_good x.finished) t);
        counted = failed pid past;
        all = simp (y, w) (ap (λ (x : Assembled). count_by is_bad x.finished + failed pid past) t);
        bad = n ∙ h.bad;
      }

-- ---- sections passed over

-- a count by recursion
abbrev tally : (List ℕ → Bool) → List (List ℕ) → ℕ
tally f [] = 0
tally f (x ∷ xs) = if f x then 1 + tally f xs else tally f xs

tally-is : (f : List ℕ → Bool) (xs : List (List ℕ)) → tally f xs ≡ count_by f xs
tally-is f xs = is_count_by (tally f) f refl (λ y ys. refl) xs

tally_yes : (f : List ℕ → Bool) (x : List ℕ) (xs : List (List ℕ)) → f x ≡ true → tally f (x ∷ xs) ≡ 1 + tally f xs
tally_yes f x xs h = simp h

tally_no : (f : List ℕ → Bool) (x : List ℕ) (xs : List (List ℕ)) → f x ≡ false → tally f (x ∷ xs) ≡ tally f xs
tally_no f x xs h = simp h

count_yes : (f : List ℕ → Bool) (x : List ℕ) (xs : List (List ℕ)) → f x ≡ true → count_by f (x ∷ xs) ≡ 1 + count_by f xs
count_yes f x xs h = sym (tally-is f (x ∷ xs)) ∙ tally_yes f x xs h ∙ ap (λ n. 1 + n) (tally-is f xs)

count_no : (f : List ℕ → Bool) (x : List ℕ) (xs : List (List ℕ)) → f x ≡ false → count_by f (x ∷ xs) ≡ count_by f xs
count_no f x xs h = sym (tally-is f (x ∷ xs)) ∙ tally_no f x xs h ∙ tally-is f xs

one_more : (m n c all : ℕ) → m ≡ 1 + n → m + c ≡ all → n + (c + 1) ≡ all
one_more m n c all h k = omega arith

capped-more : (c : ℕ) → capped (capped c + 1) ≡ capped (c + 1)
capped-more c = omega arith

-- where nothing is passed over yet, what is still to be given is what is left
pub gives_left : (a : Assembler) (pid : ℕ) (past todo : List (List ℕ)) → StillGives a pid past todo → StillGives a pid past (left a)
gives_left a pid past todo h = record { last = h.last; part = h.part; todo_left = refl; counted = h.counted; all = h.all; bad = h.bad }

module _ (a b : Assembler) (pid : ℕ) (past : List (List ℕ)) (h : StillGives a pid past (left a)) where
  none_left : (part : List ℕ) → b.last ≡ a.last → b.bad ≡ a.bad → content b.store ≡ part → IsPart part → taken (content a.store) ≡ record { finished = []; part = part } → Waits b pid past
  none_left part l m s r t =
      record {
        last = l ∙ h.last;
        part = s ∙ sym (ap (λ (x : Assembled). x.part) t) ∙ h.part;
        ready = let P : List ℕ → Type 0 = IsPart in subst P (sym s) r;
        bad = m ∙ h.bad ∙ ap capped (sym (zero-add h.counted) ∙ sym (ap (λ (x : Assembled). count_by is_bad x.finished + h.counted) t) ∙ h.all);
      }

  pub ends_in_part : front_of (content a.store) ≡ Part → b ≡ a → Waits b pid past
  ends_in_part f e = none_left (content a.store) (ap (λ (x : Assembler). x.last) e) (ap (λ (x : Assembler). x.bad) e) (ap (λ (x : Assembler). content x.store) e) (inr f) (part_alone (content a.store) f)

  pub ends_in_nothing : front_of (content a.store) ≡ Nothing → b.last ≡ a.last → b.bad ≡ a.bad → content b.store ≡ [] → Waits b pid past
  ends_in_nothing f l m s = none_left [] l m s (inl refl) (nothing_alone (content a.store) f)

  module _ (n : ℕ) (f : front_of (content a.store) ≡ Whole n) (l : b.last ≡ a.last) (s : content b.store ≡ drop n (content a.store)) where
    first_taken : taken (content a.store) ≡ with_section (take n (content a.store)) (taken (content b.store))
    first_taken = whole_first (content a.store) n f ∙ ap (λ x. with_section (take n (content a.store)) (taken x)) (sym s)

    pub passes_bad : is_bad (take n (content a.store)) ≡ true → b.bad ≡ capped (a.bad + 1) → StillGives b pid past (left b)
    passes_bad y m =
        let s0 = take n (content a.store) in
        let fs = (taken (content b.store)).finished in
        let k : count_by is_bad (taken (content a.store)).finished ≡ 1 + count_by is_bad fs = ap (λ (x : Assembled). count_by is_bad x.finished) first_taken ∙ count_yes is_bad s0 fs y in
        let c = h.counted in
        let all = h.all in
        record {
          last = l ∙ h.last;
          part = sym (ap (λ (x : Assembled). x.part) first_taken) ∙ h.part;
          todo_left = refl;
          counted = c + 1;
          all = one_more (count_by is_bad (taken (content a.store)).finished) (count_by is_bad fs) c (failed pid past) k all;
          bad = m ∙ ap (λ x. capped (x + 1)) h.bad ∙ capped-more c;
        }

    pub passes_good : is_bad (take n (content a.store)) ≡ false → b.bad ≡ a.bad → StillGives b pid past (left b)
    passes_good y m =
        let s0 = take n (content a.store) in
        let fs = (taken (content b.store)).finished in
        let q : count_by is_bad (taken (content a.store)).finished ≡ count_by is_bad fs = ap (λ (x : Assembled). count_by is_bad x.finished) first_taken ∙ count_no is_bad s0 fs y in
        record {
          last = l ∙ h.last;
          part = sym (ap (λ (x : Assembled). x.part) first_taken) ∙ h.part;
          todo_left = refl;
          counted = h.counted;
          all = ap (λ x. x + h.counted) (sym q) ∙ h.all;
          bad = m ∙ h.bad;
        }

-- ---- between packets

-- where it waits, nothing is left
pub waits_gives : (a : Assembler) (pid : ℕ) (past : List (List ℕ)) → Waits a pid past → StillGives a pid past []
waits_gives a pid past h =
    let t = ready_taken (content a.store) h.ready in
    record {
      last = h.last;
      part = ap (λ (x : Assembled). x.part) t ∙ h.part;
      todo_left = ap (λ (x : Assembled). filter is_good x.finished) t;
      counted = failed pid past;
      all = ap (λ (x : Assembled). count_by is_bad x.finished + failed pid past) t ∙ zero-add (failed pid past);
      bad = h.bad;
    }

-- a packet of another PID, or one marked in error, need not be fed
pub waits_off : (a : Assembler) (pid : ℕ) (p : List ℕ) (past : List (List ℕ)) → on pid p ≡ false → Waits a pid past → Waits a pid (p ∷ past)
waits_off a pid p past o h =
    let y = off_payload pid p o in
    record {
      last = simp y h.last;
      part = simp y h.part;
      ready = h.ready;
      bad = simp y (h.bad ∙ ap capped (sym (zero-add (failed pid past))));
    }

-- ---- packets of other PIDs

pub gives_off : (a : Assembler) (pid : ℕ) (p : List ℕ) (past todo : List (List ℕ)) → on pid p ≡ false → StillGives a pid past todo → StillGives a pid (p ∷ past) todo
gives_off a pid p past todo o h =
    let y = off_payload pid p o in
    record {
      last = simp y h.last;
      part = simp y h.part;
      todo_left = h.todo_left;
      counted = h.counted;
      all = simp y (h.all ∙ sym (zero-add (failed pid past)));
      bad = h.bad;
    }

both_so : (a b : Bool) → a && b ≡ true → b ≡ true
both_so true b h = h
both_so false b h = absurd (cc)

pub on-of : (pid : ℕ) (p : List ℕ) → on pid p ≡ true → IsOf pid p
unfolding on
on-of pid p h e = eqb-true (pid_of p) pid (both_so (not (in_error p)) (pid_of p == pid) h)
