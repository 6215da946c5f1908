-- Units of a slice put one by one.
use Rattle.std.proofs.Common.{◌≡◌, ℕ, ◌+◌, ◌-◌, ◌%◌, ◌^◌, ◌≤◌, List, [], ◌∷◌, ◌++◌, true, false, refl, sym, ap, ◌∙◌, append_assoc, length, drop, Option, None, Some, arith}
use Rattle.std.specs.Prelude.{pos, slice_get}
use Rattle.std.proofs.lemmas.List.{append-nil}
use Rattle.pes_time.specs.Line.{ring_of}
use Rattle.ts_packet.specs.Numbering.{Step, Inserted}
use Rattle.unit_stream.specs.UnitPackets.{put_in}
use Rattle.outgoing_packets.specs.Numbers.{FrontFails}
use Rattle.ad_library.specs.Advertisements.{AdvertUnit}
use Rattle.ad_library.specs.Storing.{on_line}
use Rattle.splice_plans.specs.Slicing.{is_offset_due, is_due, due_units, delta_of, moved_packets, slice_packets}

-- ---- their packets

pub put_in-append : (a b : List (List ℕ)) (steps : List Step) → put_in (a ++ b) steps ≡ put_in b (put_in a steps)
put_in-append [] b steps = refl
put_in-append (q ∷ a) b steps = put_in-append a b (Inserted ∷ steps)

module _ (pid delta : ℕ) where
  abbrev of_units : List Step → List AdvertUnit → List (List ℕ)
  of_units steps us = slice_packets pid delta steps us

  pub packets-append : (steps : List Step) (a b : List AdvertUnit) → of_units steps (a ++ b) ≡ of_units steps a ++ of_units (put_in (of_units steps a) steps) b
  packets-append steps [] b = refl
  packets-append steps (u ∷ a) b =
      let q = moved_packets pid delta steps u in
      let behind = put_in q steps in
      ap (λ l. q ++ l) (packets-append behind a b)
      ∙ ap (λ s. q ++ (of_units behind a ++ of_units s b)) (sym (put_in-append q (of_units behind a) steps))
      ∙ sym (append_assoc q (of_units behind a) (of_units (put_in (q ++ of_units behind a) steps) b))

  -- one unit more
  pub packets-one : (steps : List Step) (a : List AdvertUnit) (u : AdvertUnit)
      → of_units steps (a ++ u ∷ []) ≡ of_units steps a ++ moved_packets pid delta (put_in (of_units steps a) steps) u
  packets-one steps a u =
      packets-append steps a (u ∷ []) ∙ ap (λ l. of_units steps a ++ l) (append-nil (moved_packets pid delta (put_in (of_units steps a) steps) u))

  pub steps-one : (steps : List Step) (a : List AdvertUnit) (u : AdvertUnit)
      → put_in (of_units steps (a ++ u ∷ [])) steps ≡ put_in (moved_packets pid delta (put_in (of_units steps a) steps) u) (put_in (of_units steps a) steps)
  steps-one steps a u = ap (λ l. put_in l steps) (packets-one steps a u) ∙ put_in-append (of_units steps a) (moved_packets pid delta (put_in (of_units steps a) steps) u) steps

  -- a fault within a unit is one of them all
  pub fails-within : (steps : List Step) (all a rest : List AdvertUnit) (u : AdvertUnit) (put : List (List ℕ)) (packet : List ℕ) (left : List (List ℕ)) (F : List (List ℕ) → List ℕ → Type 0)
      → all ≡ a ++ u ∷ rest → moved_packets pid delta (put_in (of_units steps a) steps) u ≡ put ++ packet ∷ left → F (of_units steps a ++ put) packet
      → FrontFails (of_units steps all) F
  fails-within steps all a rest u put packet left F is parts fault =
      let behind = put_in (of_units steps a) steps in
      let later = of_units (put_in (moved_packets pid delta behind u) behind) rest in
      record {
        put = of_units steps a ++ put;
        packet = packet;
        left = left ++ later;
        all = ap (of_units steps) is ∙ packets-append steps a (u ∷ rest) ∙ ap (λ l. of_units steps a ++ (l ++ later)) parts
            ∙ ap (λ l. of_units steps a ++ l) (append_assoc put (packet ∷ left) later) ∙ sym (append_assoc (of_units steps a) put (packet ∷ (left ++ later)));
        fault = fault;
      }

-- ---- which are due

pub first-left : (us : List AdvertUnit) (u : AdvertUnit) → Some u ≡ slice_get us 0 → us ≡ u ∷ drop 1 us
first-left [] u h = absurd (cc)
first-left (x ∷ us) u h = let is : u ≡ x = cc in ap (λ y. y ∷ us) (sym is)

pub none-left : (us : List AdvertUnit) → None ≡ slice_get us 0 → us ≡ []
none-left [] h = refl
none-left (x ∷ us) h = absurd (cc)

pub few-none : (us : List AdvertUnit) (n m : ℕ) → m ≤ n → n + length us ≤ m → us ≡ []
few-none [] n m end h = refl
few-none (u ∷ us) n m end h = absurd (omega (arith, end, h))

pub at-end : (n m : ℕ) {k : ℕ} → m ≤ n → n ≤ m → n ≡ k → m ≡ k
at-end n m h k is = omega (arith, h, k, is)

due-same : (reached : Option ℕ) (u : AdvertUnit) (offset : ℕ) → u.offset ≡ pos offset → is_offset_due reached offset ≡ is_due reached u
due-same None u offset h = refl
due-same (Some r) u offset h = rw h refl

due-more : (reached : Option ℕ) (u : AdvertUnit) (us : List AdvertUnit) → is_due reached u ≡ true → due_units reached (u ∷ us) ≡ u ∷ due_units reached us
due-more reached u us h = simp h refl

due-none : (reached : Option ℕ) (u : AdvertUnit) (us : List AdvertUnit) → is_due reached u ≡ false → due_units reached (u ∷ us) ≡ []
due-none reached u us h = simp h refl

module _ (reached : Option ℕ) (all before : List AdvertUnit) (done : List AdvertUnit) (so_far : due_units reached all ≡ done ++ due_units reached before) where
  pub nothing-more : before ≡ [] → due_units reached all ≡ done
  nothing-more h = so_far ∙ ap (λ us. done ++ due_units reached us) h ∙ append-nil done

  module _ (u : AdvertUnit) (after : List AdvertUnit) (offset : ℕ) (first : Some u ≡ slice_get before 0) (rest : after ≡ drop 1 before) (place : u.offset ≡ pos offset) where
    here : before ≡ u ∷ after
    here = first-left before u first ∙ ap (λ us. u ∷ us) (sym rest)

    pub not-due : is_offset_due reached offset ≡ false → due_units reached all ≡ done
    not-due h = so_far ∙ ap (λ us. done ++ due_units reached us) here ∙ ap (λ us. done ++ us) (due-none reached u after (sym (due-same reached u offset place) ∙ h)) ∙ append-nil done

    pub whole : is_offset_due reached offset ≡ true → due_units reached all ≡ done ++ u ∷ due_units reached after
    whole h = so_far ∙ ap (λ us. done ++ due_units reached us) here ∙ ap (λ us. done ++ us) (due-more reached u after (sym (due-same reached u offset place) ∙ h))

    pub one-due : is_offset_due reached offset ≡ true → due_units reached all ≡ (done ++ u ∷ []) ++ due_units reached after
    one-due h = whole h ∙ sym (append_assoc done (u ∷ []) (due_units reached after))

    pub fewer : (n m : ℕ) → n + length before ≤ m → (n + 1) + length after ≤ m
    fewer n m h = let l = ap length here in omega (arith, h, l)

pub one-longer : (done : List AdvertUnit) (u : AdvertUnit) (n : ℕ) → length done ≡ n → length (done ++ u ∷ []) ≡ n + 1
one-longer [] u n h = omega (arith, h)
one-longer (x ∷ done) u n h = let l = one-longer done u (length done) refl in omega (arith, h, l)

-- ---- how far they move

pub delta-is : (delta start ticks held place : ℕ) → delta ≡ (start + (2 ^ 33 - ticks % 2 ^ 33)) % 2 ^ 33 → ticks ≡ place → place ≡ ring_of (on_line held) → delta ≡ delta_of start held
delta-is delta start ticks held place h k l = h ∙ ap (λ t. (start + (2 ^ 33 - t % 2 ^ 33)) % 2 ^ 33) (k ∙ l)
