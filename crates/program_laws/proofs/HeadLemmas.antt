-- What stands behind the head of a written stream.
use Rattle.std.specs.Option.{option_or}
use Rattle.std.proofs.Common.{◌≡◌, ℕ, List, [], ◌∷◌, ◌++◌, Bool, true, false, refl, sym, ap, ◌∙◌, Option, Some, None, map, if◌then◌else◌}
use Rattle.std.specs.List.{AllByRecursion}
use Rattle.std.specs.Prelude.{filter, is_some, option_map}
use Rattle.std.proofs.lemmas.List.Elements.{filter-append}
use Rattle.ts_packet.specs.Fields.{on}
use Rattle.ts_packet.specs.Numbering.{one_past}
use Rattle.ts_packet.proofs.Cases.{by_test}
use Rattle.ts_packet.proofs.FieldLemmas.{payload_on-on}
use Rattle.psi_tables.specs.ProgramMap.{ProgramMap}
use Rattle.program_follower.specs.declared.purpose.Listed.{Listed}
use Rattle.program_follower.specs.Program.{listed, since_pat, table_of, tables, first_map, known_map, behind_head}
use Rattle.program_laws.specs.Writing.{number_on, Writing, section_out, packets_out, body, written}
use Rattle.ts_packet.specs.Runs.{onto}
use Rattle.program_laws.specs.Behind.{Passes, HeadPasses, OthersAreWritten}
use Rattle.program_laws.proofs.StepLemmas.{tables_grow}
use Rattle.psi_section.proofs.GivenLemmas.{each-append}
use Rattle.program_laws.proofs.PacketLemmas.{one_past-below}
use Rattle.psi_section.proofs.ReadBackLemmas.{IsPayloadOn, turn_carry}
use Rattle.program_laws.proofs.ReadingLemmas.{none_at_pat}
use Rattle.program_follower.proofs.StepLemmas.{tables_at}
use Rattle.psi_section.proofs.RunLemmas.{given_off}
use Rattle.program_laws.proofs.WritingLemmas.{listed_below, written_reads_again}

-- ---- a block of packets

pub known_stays : (wanted : Option ℕ) (q : List ℕ) (out : List (List ℕ)) (m : ProgramMap) → known_map wanted out ≡ Some m → known_map wanted (q ∷ out) ≡ Some m
known_stays wanted q out m h = tables_grow wanted q out ∙ ap (λ x. option_or x (first_map (tables wanted q out))) h

behind_onto : (wanted : Option ℕ) (qs out : List (List ℕ)) (m : ProgramMap) → known_map wanted out ≡ Some m → behind_head wanted (onto out qs) ≡ onto (behind_head wanted out) qs
behind_onto wanted [] out m h = refl
behind_onto wanted (q ∷ qs) out m h =
    let e : behind_head wanted (q ∷ out) ≡ q ∷ behind_head wanted out = ap (λ x. if is_some x then q ∷ behind_head wanted out else []) h in
    behind_onto wanted qs (q ∷ out) m (known_stays wanted q out m h) ∙ ap (λ xs. onto xs qs) e

known_first : (wanted : Option ℕ) (q : List ℕ) (out : List (List ℕ)) → known_map wanted (q ∷ out) ≡ None → known_map wanted out ≡ None
known_first wanted q out h = first_none (known_map wanted out) (first_map (tables wanted q out)) (sym (tables_grow wanted q out) ∙ h) where
  first_none : (x y : Option ProgramMap) → option_or x y ≡ None → x ≡ None
  first_none None y h = refl
  first_none (Some x) y h = cc

pub nothing_behind : (wanted : Option ℕ) (past : List (List ℕ)) → known_map wanted past ≡ None → behind_head wanted past ≡ []
nothing_behind wanted [] h = refl
nothing_behind wanted (p ∷ past) h = ap (λ x. if is_some x then p ∷ behind_head wanted past else []) (known_first wanted p past h)

module _ (takes : List ℕ → Bool) where
  abbrev Left : List ℕ → Type 0
  Left q = takes q ≡ false

  left_out : (qs : List (List ℕ)) → AllByRecursion Left qs → filter takes qs ≡ []
  left_out [] h = refl
  left_out (q ∷ qs) h = let k = h.0 in simp k (left_out qs h.1)

  filter_onto : (qs past : List (List ℕ)) → filter takes (onto past qs) ≡ onto (filter takes past) (filter takes qs)
  filter_onto [] past = refl
  filter_onto (q ∷ qs) past =
      filter_onto qs (q ∷ past)
      ∙ by_test (takes q) (λ y. simp y refl) (λ n. simp n refl)

  one_behind : (wanted : Option ℕ) (q : List ℕ) (out : List (List ℕ)) (o : Option ProgramMap) → takes q ≡ false → known_map wanted out ≡ o
      → filter takes (if is_some o then q ∷ behind_head wanted out else []) ≡ filter takes (behind_head wanted out)
  one_behind wanted q out None n h = ap (filter takes) (sym (nothing_behind wanted out h))
  one_behind wanted q out (Some m) n h = simp n refl

  left_behind : (wanted : Option ℕ) (qs out : List (List ℕ)) → AllByRecursion Left qs → filter takes (behind_head wanted (onto out qs)) ≡ filter takes (behind_head wanted out)
  left_behind wanted [] out h = refl
  left_behind wanted (q ∷ qs) out h = left_behind wanted qs (q ∷ out) h.1 ∙ one_behind wanted q out (known_map wanted out) h.0 refl

  own_left : (pid : ℕ) → ((q : List ℕ) → on pid q ≡ true → takes q ≡ false) → (qs : List (List ℕ)) → AllByRecursion (IsPayloadOn pid) qs → AllByRecursion Left qs
  own_left pid own [] h = tt
  own_left pid own (q ∷ qs) h = (own q (payload_on-on pid q h.0), own_left pid own qs h.1)

  module _ (w : Writing) (wanted : Option ℕ) (p : List ℕ) (past out : List (List ℕ)) (s : Passes takes w wanted p past) where
    packets_left : (l : Listed) → listed wanted past ≡ Some l → AllByRecursion Left (packets_out l.pid out (map (section_out w.change) (tables wanted p past)))
    packets_left l h =
        let n = one_past (number_on l.pid out) in
        let ss = map (section_out w.change) (tables wanted p past) in
        own_left l.pid (s.own l h) (packets_out l.pid out ss) (turn_carry l.pid n ss (listed_below wanted past l h) (one_past-below (number_on l.pid out)))

    -- of a block, what the test takes is the packet
    body_taken : (o : Option Listed) → listed wanted past ≡ o → filter takes (body w o p past (tables wanted p past) out) ≡ filter takes (p ∷ [])
    body_taken None h = s.place
    body_taken (Some l) h =
        by_test (on l.pid p)
        (λ y. simp y (left_out (packets_out l.pid out (map (section_out w.change) (tables wanted p past))) (packets_left l h) ∙ sym (left_out (p ∷ []) (s.own l h p y, tt))))
        (λ n. simp n s.place)

    abbrev whole : Option Listed → List (List ℕ)
    whole o = w.front p past ++ body w o p past (tables wanted p past) out

    block_taken : filter takes (whole (listed wanted past)) ≡ filter takes (p ∷ [])
    block_taken =
        filter-append takes (w.front p past) (body w (listed wanted past) p past (tables wanted p past) out)
        ∙ ap (λ xs. xs ++ filter takes (body w (listed wanted past) p past (tables wanted p past) out)) (left_out (w.front p past) s.front)
        ∙ body_taken (listed wanted past) refl

    -- behind the head
    known_step : (m n : ProgramMap) → known_map wanted past ≡ Some m → known_map wanted out ≡ Some n → filter takes (behind_head wanted out) ≡ filter takes (behind_head wanted past)
        → filter takes (behind_head wanted (onto out (whole (listed wanted past)))) ≡ filter takes (behind_head wanted (p ∷ past))
    known_step m n h k same =
        ap (filter takes) (behind_onto wanted (whole (listed wanted past)) out n k)
        ∙ filter_onto (whole (listed wanted past)) (behind_head wanted out)
        ∙ ap (onto (filter takes (behind_head wanted out))) block_taken
        ∙ sym (filter_onto (p ∷ []) (behind_head wanted out))
        ∙ by_test (takes p) (λ y. simp y (ap (λ xs. p ∷ xs) same)) (λ y. simp y same)
        ∙ ap (filter takes) (sym (ap (λ x. if is_some x then p ∷ behind_head wanted past else []) h))

    -- up to its end
    head_step : (o : Option Listed) → listed wanted past ≡ o → known_map wanted past ≡ None → known_map wanted out ≡ None
        → known_map wanted (onto out (whole o)) ≡ option_map w.change (known_map wanted (p ∷ past))
        → filter takes (behind_head wanted (onto out (whole o))) ≡ []
    head_step None h none k again =
        let e : known_map wanted (p ∷ past) ≡ None = ap first_map (none_at_pat wanted p past h) in
        ap (filter takes) (nothing_behind wanted (onto out (whole None)) (again ∙ ap (option_map w.change) e))
    head_step (Some l) h none k again =
        by_test (on l.pid p)
        (λ y. let e : whole (Some l) ≡ w.front p past ++ packets_out l.pid out (map (section_out w.change) (tables wanted p past)) = simp y refl in
        let all = each-append Left (w.front p past) (packets_out l.pid out (map (section_out w.change) (tables wanted p past))) s.front (packets_left l h) in
        ap (λ qs. filter takes (behind_head wanted (onto out qs))) e
        ∙ left_behind wanted (w.front p past ++ packets_out l.pid out (map (section_out w.change) (tables wanted p past))) out all
        ∙ ap (filter takes) (nothing_behind wanted out k))
        (λ n. let t : tables wanted p past ≡ [] = tables_at wanted p past l h ∙ ap (map (table_of l.program)) (given_off l.pid p (since_pat wanted past) n) in
        let e : known_map wanted (p ∷ past) ≡ None = tables_grow wanted p past ∙ ap (λ ts. option_or (known_map wanted past) (first_map ts)) t ∙ ap (λ x. option_or x None) none in
        ap (filter takes) (nothing_behind wanted (onto out (whole (Some l))) (again ∙ ap (option_map w.change) e)))

    passed : (o : Option ProgramMap) → known_map wanted past ≡ o → known_map wanted out ≡ option_map w.change o
        → known_map wanted (onto out (whole (listed wanted past))) ≡ option_map w.change (known_map wanted (p ∷ past))
        → filter takes (behind_head wanted out) ≡ filter takes (behind_head wanted past)
        → filter takes (behind_head wanted (onto out (whole (listed wanted past)))) ≡ filter takes (behind_head wanted (p ∷ past))
    passed None h k again same =
        head_step (listed wanted past) refl h k again ∙ ap (filter takes) (sym (ap (λ x. if is_some x then p ∷ behind_head wanted past else []) h))
    passed (Some m) h k again same = known_step m (w.change m) h k same

pub head_passes : HeadPasses
head_passes takes w wanted [] h s = refl
head_passes takes w wanted (p ∷ past) h s =
    let out = written w wanted past in
    let r = written_reads_again w wanted past h.1 in
    let t = written_reads_again w wanted (p ∷ past) h in
    passed takes w wanted p past out s.0 (known_map wanted past) refl r.head t.head (head_passes takes w wanted past h.1 s.1)

pub others_are_written : OthersAreWritten
others_are_written takes w wanted [] s = refl
others_are_written takes w wanted (p ∷ past) s =
    let out = written w wanted past in
    filter_onto takes (whole takes w wanted p past out s.0 (listed wanted past)) out
    ∙ ap (onto (filter takes out)) (block_taken takes w wanted p past out s.0)
    ∙ ap (λ xs. onto xs (filter takes (p ∷ []))) (others_are_written takes w wanted past s.1)
    ∙ sym (filter_onto takes (p ∷ []) past)
