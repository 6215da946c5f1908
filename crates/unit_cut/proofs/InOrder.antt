-- The cut of a run, part by part and packet by packet.
use Rattle.std.specs.Prelude.{ℤ, filter, All}
use Rattle.std.proofs.Common.{◌≡◌, ℕ, ◌+◌, ◌*◌, List, [], ◌∷◌, ◌++◌, Bool, not, ◌&&◌, refl, sym, ap, ◌∙◌, if◌then◌else◌, Option, map, reverse}
use Rattle.std.proofs.lemmas.List.{append-nil, map-append}
use Rattle.std.proofs.lemmas.List.Elements.{filter-append, All-head, All-tail}
use Rattle.ts_packet.specs.Fields.{on, payload_on, renumbered}
use Rattle.ts_packet.specs.Duplicates.{original}
use Rattle.ts_packet.specs.Runs.{Seen, seen_after}
use Rattle.ts_packet.proofs.Cases.{by_test}
use Rattle.ts_packet.proofs.RunLemmas.{onto, seen_after-append, reverse-more}
use Rattle.unit_stream.specs.Times.{unit_time}
use Rattle.unit_stream.specs.Fates.{is_cut}
use Rattle.unit_cut.specs.Cutting.{cut}
use Rattle.unit_cut.proofs.Counted.{gone, kept_as, counted_cut, cut_back, cut_is}
use Rattle.unit_cut.specs.Laws.{CutGrows}

module _ (goes : Option ℤ → Bool) (sw : List ℕ) (pid : ℕ) where
  -- what the cut leaves of packets behind a past
  abbrev pub cut_after : List (List ℕ) → List (List ℕ) → List (List ℕ)
  cut_after past ps = map (λ (s : Seen). kept_as goes sw pid s.packet s.past) (filter (λ (s : Seen). not (is_cut goes sw pid s.packet s.past)) (seen_after past ps))

  pub cut_after-append : (past ps qs : List (List ℕ)) → cut_after past (ps ++ qs) ≡ cut_after past ps ++ cut_after (onto past ps) qs
  cut_after-append past ps qs =
      let stays : Seen → Bool = λ (s : Seen). not (is_cut goes sw pid s.packet s.past) in
      let turned : Seen → List ℕ = λ (s : Seen). kept_as goes sw pid s.packet s.past in
      ap (λ l. map turned (filter stays l)) (seen_after-append past ps qs)
      ∙ ap (map turned) (filter-append stays (seen_after past ps) (seen_after (onto past ps) qs))
      ∙ map-append turned (filter stays (seen_after past ps)) (filter stays (seen_after (onto past ps) qs))

  -- the first packet goes, or stays in front of what the cut leaves of the others
  pub cut_after-cons : (p : List ℕ) (past ps : List (List ℕ)) → cut_after past (p ∷ ps)
      ≡ (if is_cut goes sw pid p past then [] else kept_as goes sw pid p past ∷ []) ++ cut_after (p ∷ past) ps
  cut_after-cons p past ps = by_test (is_cut goes sw pid p past) (λ c. simp c) (λ c. simp c)

  -- one more packet goes, or stays behind what the cut leaves of those before it
  pub cut_snoc : (ps : List (List ℕ)) (p : List ℕ) → counted_cut goes sw pid (ps ++ p ∷ [])
      ≡ counted_cut goes sw pid ps ++ (if is_cut goes sw pid p (reverse ps) then [] else kept_as goes sw pid p (reverse ps) ∷ [])
  cut_snoc ps p =
      cut_after-append [] ps (p ∷ [])
      ∙ ap (λ l. counted_cut goes sw pid ps ++ l) (cut_after-cons p (reverse ps) [] ∙ append-nil (if is_cut goes sw pid p (reverse ps) then [] else kept_as goes sw pid p (reverse ps) ∷ []))

  -- ---- newest first

  abbrev CutGlued : List (List ℕ) → List (List ℕ) → Type 0
  CutGlued past ps = reverse (cut_back goes sw pid (onto past ps)) ≡ reverse (cut_back goes sw pid past) ++ cut_after past ps

  cut_more : (p : List ℕ) (past ps : List (List ℕ)) → CutGlued (p ∷ past) ps → CutGlued past (p ∷ ps)
  cut_more p past ps h =
      by_test (is_cut goes sw pid p past)
      (λ c. let e = simp c at h in simp c e)
      (λ c. let e = simp c at h in simp c (e ∙ reverse-more (kept_as goes sw pid p past) (cut_back goes sw pid past) (cut_after (p ∷ past) ps)))

  cut_glue : (past ps : List (List ℕ)) → CutGlued past ps
  cut_glue past [] = sym (append-nil (reverse (cut_back goes sw pid past)))
  cut_glue past (p ∷ ps) = cut_more p past ps (cut_glue (p ∷ past) ps)

  -- the cut of a run is the one found packet by packet
  pub cut_in_order : (ps : List (List ℕ)) → counted_cut goes sw pid ps ≡ reverse (cut_back goes sw pid (reverse ps))
  cut_in_order ps = sym (cut_glue [] ps)

pub cut_grows : CutGrows
cut_grows goes sw pid ps qs =
    let more = cut_after goes sw pid (reverse ps) qs in
    (more, cut_is goes sw pid (ps ++ qs) ∙ cut_after-append goes sw pid [] ps qs ∙ ap (λ l. l ++ more) (sym (cut_is goes sw pid ps)))

-- ---- Two tests that agree on the times that occur cut alike.

module _ (goes goes' : Option ℤ → Bool) (sw : List ℕ) (pid : ℕ) where
  -- they agree on the time of the unit that runs at the packet
  abbrev pub AgreeAt : Seen → Type 0
  AgreeAt s = goes (unit_time sw pid (s.packet ∷ s.past)) ≡ goes' (unit_time sw pid (s.packet ∷ s.past))

  pub is_cut-same : (p : List ℕ) (past : List (List ℕ)) → goes (unit_time sw pid (p ∷ past)) ≡ goes' (unit_time sw pid (p ∷ past))
      → is_cut goes sw pid p past ≡ is_cut goes' sw pid p past
  is_cut-same p past e = ap (λ b. payload_on pid p && b) e

  count_same : (c c' o : Bool) (n n' : ℕ) → c ≡ c' → n ≡ n' → (if c && o then n + 1 else n) ≡ (if c' && o then n' + 1 else n')
  count_same c c' o n n' e f = rw (e, f) refl

  pub gone-same : (p : List ℕ) (past : List (List ℕ)) → goes (unit_time sw pid (p ∷ past)) ≡ goes' (unit_time sw pid (p ∷ past))
      → gone goes sw pid past ≡ gone goes' sw pid past → gone goes sw pid (p ∷ past) ≡ gone goes' sw pid (p ∷ past)
  gone-same p past e h = count_same (is_cut goes sw pid p past) (is_cut goes' sw pid p past) (original pid p past) (gone goes sw pid past) (gone goes' sw pid past) (is_cut-same p past e) h

  pub kept_as-same : (p : List ℕ) (past : List (List ℕ)) → gone goes sw pid past ≡ gone goes' sw pid past → kept_as goes sw pid p past ≡ kept_as goes' sw pid p past
  kept_as-same p past h = ap (λ n. if on pid p then renumbered (15 * n) p else p) h

  one_same : (c c' : Bool) (k k' : List ℕ) (l l' : List (List ℕ)) → c ≡ c' → k ≡ k' → l ≡ l' → (if c then [] else k ∷ []) ++ l ≡ (if c' then [] else k' ∷ []) ++ l'
  one_same c c' k k' l l' e f g = rw (e, f, g) refl

  cut_same_after : (past ps : List (List ℕ)) → gone goes sw pid past ≡ gone goes' sw pid past → All AgreeAt (seen_after past ps)
      → cut_after goes sw pid past ps ≡ cut_after goes' sw pid past ps
  cut_same_after past [] h k = refl
  cut_same_after past (p ∷ ps) h k =
      let s : Seen = record { packet = p; past = past } in
      let e : goes (unit_time sw pid (p ∷ past)) ≡ goes' (unit_time sw pid (p ∷ past)) = All-head AgreeAt s (seen_after (p ∷ past) ps) k in
      cut_after-cons goes sw pid p past ps
      ∙ one_same (is_cut goes sw pid p past) (is_cut goes' sw pid p past) (kept_as goes sw pid p past) (kept_as goes' sw pid p past) (cut_after goes sw pid (p ∷ past) ps) (cut_after goes' sw pid (p ∷ past) ps)
      (is_cut-same p past e) (kept_as-same p past h) (cut_same_after (p ∷ past) ps (gone-same p past e h) (All-tail AgreeAt s (seen_after (p ∷ past) ps) k))
      ∙ sym (cut_after-cons goes' sw pid p past ps)

  pub cut-same : (ps : List (List ℕ)) → All (λ (s : Seen). goes (unit_time sw pid (s.packet ∷ s.past)) ≡ goes' (unit_time sw pid (s.packet ∷ s.past))) (seen_after [] ps)
      → cut goes sw pid ps ≡ cut goes' sw pid ps
  cut-same ps k = cut_is goes sw pid ps ∙ cut_same_after [] ps refl k ∙ sym (cut_is goes' sw pid ps)
