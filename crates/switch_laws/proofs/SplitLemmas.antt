-- The packets of a switched PID go by themselves.
use Rattle.std.proofs.Common.{◌≡◌, ℕ, ◌<◌, ◌%◌, List, [], ◌∷◌, ◌++◌, Bool, true, false, ◌||◌, refl, sym, ap, ◌∙◌, Option, None, Some, append_assoc, if◌then◌else◌, subst, map, length, reverse, arith}
use Rattle.std.specs.Prelude.{filter, ◌==◌, is_some, drop}
use Rattle.std.specs.List.{AllByRecursion}
use Rattle.std.proofs.lemmas.Bool.{true≢false, eqb-true}
use Rattle.std.proofs.lemmas.List.{reverse-append, reverse-reverse}
use Rattle.std.proofs.lemmas.List.Elements.{filter-append}
use Rattle.ts_packet.specs.Fields.{on, payload_on, pid_of, pcr, on_one, is_among}
use Rattle.ts_packet.specs.Numbering.{one_past, number_out}
use Rattle.ts_packet.specs.Runs.{onto}
use Rattle.ts_packet.proofs.Cases.{by_test}
use Rattle.ts_packet.proofs.FieldLemmas.{payload_on-on, off_payload}
use Rattle.ts_packet.proofs.RunLemmas.{filter-reverse, onto-append, reverse-onto}
use Rattle.unit_stream.specs.Fates.{is_left_out}
use Rattle.psi_tables.specs.ProgramMap.{ProgramMap}
use Rattle.psi_section.proofs.ReadBackLemmas.{IsPayloadOn, turn_carry}
use Rattle.program_follower.proofs.StreamLemmas.{one_pid}
use Rattle.program_follower.specs.declared.purpose.Listed.{Listed}
use Rattle.program_follower.specs.Program.{listed, tables, known_map, behind_head}
use Rattle.program_laws.specs.Writing.{number_on, section_out, packets_out, body, block}
use Rattle.program_laws.proofs.PacketLemmas.{one_past-below}
use Rattle.program_laws.proofs.WritingLemmas.{listed_below}
use Rattle.output_laws.specs.Output.{Move, Keep, Leave, Packing, counter_steps, clock_alone, out_at, out_after, output}
use Rattle.output_laws.proofs.StepLemmas.{onto_moves, out_back, out_onto, payload_on-kept, payload_on-clock}
use Rattle.output_laws.proofs.SplicedLemmas.{onto_moves-append}
use Rattle.splice_plans.specs.Playing.{Adverts, History, is_inside}
use Rattle.splice_plans.specs.Switching.{Setting, switched_at, head_at, history_at, place_at, rest_at, switching, switched_past, spliced_network, events_at, moves, puts_before, puts_at_end, fate, place_of, front_of, end_of_run}
use Rattle.switch_laws.specs.Moving.{moves_from, run_moves}
use Rattle.splice_plans.specs.Known.{adverts_at}
use Rattle.switch_laws.specs.Whole.{TablesAreApart, run_out, StreamsGoByThemselves}
use Rattle.switch_laws.proofs.WholeLemmas.{listed-later, known-later, behind-one, head-later, adverts-same, switched-same, none-switched, not-behind, is-behind}

-- ---- lists

pub filter-onto : (takes : List ℕ → Bool) (past qs : List (List ℕ)) → filter takes (onto past qs) ≡ onto (filter takes past) (filter takes qs)
filter-onto takes past [] = refl
filter-onto takes past (q ∷ qs) = filter-onto takes (q ∷ past) qs ∙ by_test (takes q) (λ y. simp y refl) (λ n. simp n refl)

onto-behind : (past more qs : List (List ℕ)) → onto (past ++ more) qs ≡ onto past qs ++ more
onto-behind past more [] = refl
onto-behind past more (q ∷ qs) = onto-behind (q ∷ past) more qs

pub onto-reverse : (past ms : List Move) → onto_moves past ms ≡ reverse ms ++ past
onto-reverse past [] = refl
onto-reverse past (m ∷ ms) = onto-reverse (m ∷ past) ms ∙ sym (append_assoc (reverse ms) (m ∷ []) past) ∙ ap (λ l. l ++ past) (sym (reverse-append (m ∷ []) ms))

-- ---- the run

module _ (packed : Packing) (switched : List ℕ) (ads : Adverts) (events : History) where
  -- behind the moves so far, the rest of them
  moves-onto : (past ps : List (List ℕ)) → onto_moves (moves switched ads events past) (moves_from switched ads events past ps) ≡ onto_moves (moves switched ads events (onto past ps)) (puts_at_end switched ads events (onto past ps))
  moves-onto past [] = refl
  moves-onto past (p ∷ ps) =
      let A = puts_before switched ads events p past in
      let M = moves_from switched ads events (p ∷ past) ps in
      onto_moves-append (moves switched ads events past) A (fate switched ads events p past ∷ M)
      ∙ ap (λ l. onto_moves (fate switched ads events p past ∷ l) M) (onto-reverse (moves switched ads events past) A)
      ∙ moves-onto (p ∷ past) ps

  -- the output of a run
  pub out-is : (ps : List (List ℕ)) → output packed (run_moves switched ads events ps)
      ≡ reverse (out_back packed (moves switched ads events (reverse ps))) ++ out_after packed (moves switched ads events (reverse ps)) (puts_at_end switched ads events (reverse ps))
  out-is ps =
      let B = moves switched ads events (reverse ps) in
      let E = puts_at_end switched ads events (reverse ps) in
      sym (reverse-reverse (output packed (run_moves switched ads events ps)))
      ∙ ap reverse (sym (out_onto packed [] (run_moves switched ads events ps)) ∙ ap (out_back packed) (moves-onto [] ps) ∙ out_onto packed B E)
      ∙ reverse-onto (out_back packed B) (out_after packed B E)

  -- one packet more
  pub back-one : (p : List ℕ) (past : List (List ℕ)) → out_back packed (moves switched ads events (p ∷ past))
      ≡ onto (onto (out_back packed (moves switched ads events past)) (front_of switched ads events packed p past)) (place_of switched ads events packed p past)
  back-one p past =
      ap (λ l. onto l (place_of switched ads events packed p past))
      (ap (out_back packed) (sym (onto-reverse (moves switched ads events past) (puts_before switched ads events p past))) ∙ out_onto packed (moves switched ads events past) (puts_before switched ads events p past))

  module _ (pid : ℕ) where
    clock-none : (n : ℕ) (q : ℕ) (o : Option (List ℕ)) → n < 16 → filter (payload_on pid) (clock_alone q n o) ≡ []
    clock-none n q None h = refl
    clock-none n q (Some c) h = let e = payload_on-clock pid q n c h in simp e refl

    small : (a : ℕ) → a % 16 < 16
    small a = omega arith

    place-by : (d : Bool) (p : List ℕ) (S : List Move) → payload_on pid p ≡ false → filter (payload_on pid) (out_at packed (if d then Leave p else Keep p) S) ≡ []
    place-by true p S n = clock-none (number_out p (counter_steps packed (pid_of p) (Leave p ∷ S))) (pid_of p) (pcr p) (small _)
    place-by false p S n = let e = payload_on-kept packed pid p S ∙ n in simp e refl

    -- for a packet that is none of the PID's nothing stands that is
    pub place-none : (p : List ℕ) (past : List (List ℕ)) → payload_on pid p ≡ false → filter (payload_on pid) (place_of switched ads events packed p past) ≡ []
    place-none p past n =
        place-by (is_left_out (λ pid time. is_inside ads (events (p ∷ past)) time) switched p past switched) p (reverse (puts_before switched ads events p past) ++ moves switched ads events past) n

-- ---- a packet of another PID

among-switched : (pid : ℕ) (p : List ℕ) (pids : List ℕ) → is_among pid pids ≡ true → on_one pids p ≡ false → on pid p ≡ false
among-switched pid p [] a s = absurd (true≢false (sym a))
among-switched pid p (q ∷ qs) a s = by_test (q == pid)
    (λ e. ap (λ n. on n p) (sym (eqb-true q pid e)) ∙ or_first (on q p) (on_one qs p) s)
    (λ e. among-switched pid p qs (simp e at a) (or_second (on q p) (on_one qs p) s))
  where
    or_first : (a b : Bool) → (a || b) ≡ false → a ≡ false
    or_first true b h = absurd (true≢false h)
    or_first false b h = refl

    or_second : (a b : Bool) → (a || b) ≡ false → b ≡ false
    or_second true b h = absurd (true≢false h)
    or_second false b h = h

other-pid : (pids : List ℕ) (a b : ℕ) → is_among a pids ≡ false → is_among b pids ≡ true → a ≡ b → ⊥
other-pid pids a b h k e = true≢false (sym k ∙ ap (λ n. is_among n pids) (sym e) ∙ h)

module _ (k : Setting) (pid : ℕ) where
  abbrev wanted : Option ℕ
  wanted = Some k.program

  abbrev takes : List ℕ → Bool
  takes = payload_on pid

  not-own : (q : ℕ) (p : List ℕ) → (q ≡ pid → ⊥) → on q p ≡ true → payload_on pid p ≡ false
  not-own q p ne o = by_test (payload_on pid p) (λ y. absurd (ne (one_pid q pid p o (payload_on-on pid p y)))) (λ n. n)

  none-own : (q : ℕ) (qs : List (List ℕ)) → (q ≡ pid → ⊥) → AllByRecursion (IsPayloadOn q) qs → filter takes qs ≡ []
  none-own q [] ne a = refl
  none-own q (p ∷ qs) ne a = let n = not-own q p ne (payload_on-on q p a.0) in simp n (none-own q qs ne a.1)

  none-tables : (l : Listed) (p : List ℕ) (past out : List (List ℕ)) → listed wanted past ≡ Some l → (l.pid ≡ pid → ⊥) → filter takes (packets_out l.pid out (map (section_out (switching k).change) (tables wanted p past))) ≡ []
  none-tables l p past out h ne =
      let ss = map (section_out (switching k).change) (tables wanted p past) in
      none-own l.pid (packets_out l.pid out ss) ne (turn_carry l.pid (one_past (number_on l.pid out)) ss (listed_below wanted past l h) (one_past-below (number_on l.pid out)))

  one-taken : (p : List ℕ) → payload_on pid p ≡ false → filter takes (p ∷ []) ≡ []
  one-taken p n = simp n refl

  module _ (p : List ℕ) (past : List (List ℕ)) (cue : k.cue_pid ≡ pid → ⊥) (pmt : (l : Listed) → listed wanted past ≡ Some l → l.pid ≡ pid → ⊥) where
    abbrev own : List (List ℕ)
    own = place_of (switched_at k past) (adverts_at k past) (history_at k past) k.packed p (behind_head wanted past)

    own-none : payload_on pid p ≡ false → filter takes own ≡ []
    own-none n = place-none k.packed (switched_at k past) (adverts_at k past) (history_at k past) pid p (behind_head wanted past) n

    -- behind the head the PID's are as in the run
    place-taken : is_among pid (switched_at k past) ≡ true → filter takes (place_at k p past) ≡ filter takes own
    place-taken a = by_test (on k.cue_pid p)
        (λ y. simp y (sym (own-none (not-own k.cue_pid p cue y))))
        (λ y. by_test (on_one (switched_at k past) p)
        (λ s. simp (y, s) refl)
        (λ s. let n = off_payload pid p (among-switched pid p (switched_at k past) a s) in simp (y, s) (one-taken p n ∙ sym (own-none n))))

    body-taken : (o : Option Listed) → listed wanted past ≡ o → (out : List (List ℕ)) → is_among pid (switched_at k past) ≡ true → filter takes (body (switching k) o p past (tables wanted p past) out) ≡ filter takes own
    body-taken None h out a = place-taken a
    body-taken (Some l) h out a = by_test (on l.pid p)
        (λ y. simp y (none-tables l p past out h (pmt l h) ∙ sym (own-none (not-own l.pid p (pmt l h) y))))
        (λ y. simp y (place-taken a))

    -- up to its end they pass
    head-place : known_map wanted past ≡ None → filter takes (place_at k p past) ≡ filter takes (p ∷ [])
    head-place known =
        ap (λ sw. filter takes (if on k.cue_pid p then [] else (if on_one sw p then own else p ∷ []))) (none-switched k past known)
        ∙ by_test (on k.cue_pid p)
        (λ y. simp y (sym (one-taken p (not-own k.cue_pid p cue y))))
        (λ y. simp y refl)

    head-taken : (o : Option Listed) → listed wanted past ≡ o → (out : List (List ℕ)) → known_map wanted past ≡ None → filter takes (body (switching k) o p past (tables wanted p past) out) ≡ filter takes (p ∷ [])
    head-taken None h out known = head-place known
    head-taken (Some l) h out known = by_test (on l.pid p)
        (λ y. simp y (none-tables l p past out h (pmt l h) ∙ sym (one-taken p (not-own l.pid p (pmt l h) y))))
        (λ y. simp y (head-place known))

    abbrev out : List (List ℕ)
    out = switched_past k past

    head-block : known_map wanted past ≡ None → filter takes (block (switching k) wanted p past out) ≡ filter takes (p ∷ [])
    head-block known =
        ap (λ c. filter takes ((if c then front_of (switched_at k past) (adverts_at k past) (history_at k past) k.packed p (behind_head wanted past) else []) ++ body (switching k) (listed wanted past) p past (tables wanted p past) out)) (not-behind k past known)
        ∙ head-taken (listed wanted past) refl out known

    behind-block : (m : ProgramMap) → known_map wanted past ≡ Some m → is_among pid (switched_at k past) ≡ true →
        filter takes (block (switching k) wanted p past out) ≡ filter takes (front_of (switched_at k past) (adverts_at k past) (history_at k past) k.packed p (behind_head wanted past)) ++ filter takes own
    behind-block m known a =
        let F = front_of (switched_at k past) (adverts_at k past) (history_at k past) k.packed p (behind_head wanted past) in
        let B = body (switching k) (listed wanted past) p past (tables wanted p past) out in
        ap (λ c. filter takes ((if c then F else []) ++ B)) (is-behind k m past known)
        ∙ filter-append takes F B ∙ ap (λ l. filter takes F ++ l) (body-taken (listed wanted past) refl out a)

-- ---- all packets

module _ (k : Setting) (pid : ℕ) (network : List (List ℕ)) (apart : TablesAreApart k network) (a : is_among pid (switched_at k network) ≡ true) where
  abbrev mine : List ℕ → Bool
  mine = payload_on pid

  abbrev run : List (List ℕ) → List Move
  run past = moves (switched_at k past) (adverts_at k past) (history_at k past) (behind_head (Some k.program) past)

  -- the PID's packets that are out, where the program is not known yet, and where it is
  abbrev Split : List (List ℕ) → Option ProgramMap → Type 0
  Split past None = filter mine (switched_past k past) ≡ filter mine past
  Split past (Some m) = filter mine (switched_past k past) ≡ filter mine (out_back k.packed (run past)) ++ filter mine (head_at k past)

  cue-apart : k.cue_pid ≡ pid → ⊥
  cue-apart = other-pid (switched_at k network) k.cue_pid pid apart.cue a

  pmt-apart : (past more : List (List ℕ)) → network ≡ more ++ past → (l : Listed) → listed (Some k.program) past ≡ Some l → l.pid ≡ pid → ⊥
  pmt-apart past more is l h = other-pid (switched_at k network) l.pid pid (apart.pmt l (ap (listed (Some k.program)) is ∙ listed-later (Some k.program) l more past h)) a

  switched-here : (m : ProgramMap) (past more : List (List ℕ)) → network ≡ more ++ past → known_map (Some k.program) past ≡ Some m → is_among pid (switched_at k past) ≡ true
  switched-here m past more is known =
      ap (is_among pid) (switched-same k past network (known ∙ sym (ap (known_map (Some k.program)) is ∙ known-later (Some k.program) m more past known))) ∙ a

  -- the first packet behind the head
  head-split : (o : Option ProgramMap) (p : List ℕ) (past more : List (List ℕ)) → network ≡ more ++ (p ∷ past) → known_map (Some k.program) past ≡ None → Split past None → known_map (Some k.program) (p ∷ past) ≡ o → Split (p ∷ past) o
  head-split o p past more is known before after =
      let there : network ≡ (more ++ p ∷ []) ++ past = is ∙ sym (append_assoc more (p ∷ []) past) in
      let e : filter mine (switched_past k (p ∷ past)) ≡ filter mine (p ∷ past) =
      filter-onto mine (switched_past k past) (block (switching k) (Some k.program) p past (switched_past k past))
      ∙ ap (onto (filter mine (switched_past k past))) (head-block k pid p past cue-apart (pmt-apart past (more ++ p ∷ []) there) known)
      ∙ ap (λ l. onto l (filter mine (p ∷ []))) before
      ∙ sym (filter-onto mine past (p ∷ [])) in
      at o e
    where
      none-behind : behind_head (Some k.program) (p ∷ past) ≡ []
      none-behind = ap (λ o. if is_some o then p ∷ behind_head (Some k.program) past else []) known

      at : (o : Option ProgramMap) → filter mine (switched_past k (p ∷ past)) ≡ filter mine (p ∷ past) → Split (p ∷ past) o
      at None e = e
      at (Some m) e =
          e ∙ ap (λ l. filter mine (drop (length l) (p ∷ past))) (sym none-behind)
          ∙ ap (λ l. filter mine (out_back k.packed (moves (switched_at k (p ∷ past)) (adverts_at k (p ∷ past)) (history_at k (p ∷ past)) l)) ++ filter mine (head_at k (p ∷ past))) (sym none-behind)

  run-same : (m : ProgramMap) (p : List ℕ) (past : List (List ℕ)) → known_map (Some k.program) past ≡ Some m →
      run (p ∷ past) ≡ moves (switched_at k past) (adverts_at k past) (history_at k past) (p ∷ behind_head (Some k.program) past)
  run-same m p past known =
      let one : List (List ℕ) = p ∷ [] in
      let same : known_map (Some k.program) (p ∷ past) ≡ known_map (Some k.program) past = known-later (Some k.program) m one past known ∙ sym known in
      ap (λ l. moves (switched_at k (p ∷ past)) (adverts_at k (p ∷ past)) (history_at k (p ∷ past)) l) (behind-one (Some k.program) m p past known)
      ∙ ap (λ sw. moves sw (adverts_at k (p ∷ past)) (history_at k (p ∷ past)) (p ∷ behind_head (Some k.program) past)) (switched-same k (p ∷ past) past same)
      ∙ ap (λ ads. moves (switched_at k past) ads (history_at k (p ∷ past)) (p ∷ behind_head (Some k.program) past)) (adverts-same k (p ∷ past) past same)
      ∙ ap (λ hd. moves (switched_at k past) (adverts_at k past) (λ behind. events_at k (behind ++ hd)) (p ∷ behind_head (Some k.program) past)) (head-later k m one past known)

  -- behind it
  behind-split : (m : ProgramMap) (p : List ℕ) (past more : List (List ℕ)) → network ≡ more ++ (p ∷ past) → known_map (Some k.program) past ≡ Some m → Split past (Some m) → Split (p ∷ past) (Some m)
  behind-split m p past more is known before =
      let there : network ≡ (more ++ p ∷ []) ++ past = is ∙ sym (append_assoc more (p ∷ []) past) in
      let sw = switched_at k past in
      let ads = adverts_at k past in
      let ev = history_at k past in
      let b = behind_head (Some k.program) past in
      let F = front_of sw ads ev k.packed p b in
      let P = place_of sw ads ev k.packed p b in
      let O = out_back k.packed (moves sw ads ev b) in
      let H = head_at k past in
      let one : List (List ℕ) = p ∷ [] in
      filter-onto mine (switched_past k past) (block (switching k) (Some k.program) p past (switched_past k past))
      ∙ ap (onto (filter mine (switched_past k past))) (behind-block k pid p past cue-apart (pmt-apart past (more ++ p ∷ []) there) m known (switched-here m past (more ++ p ∷ []) there known))
      ∙ ap (λ l. onto l (filter mine F ++ filter mine P)) before
      ∙ onto-behind (filter mine O) (filter mine H) (filter mine F ++ filter mine P)
      ∙ ap (λ l. l ++ filter mine H)
      (onto-append (filter mine O) (filter mine F) (filter mine P)
      ∙ ap (λ l. onto l (filter mine P)) (sym (filter-onto mine O F)) ∙ sym (filter-onto mine (onto O F) P)
      ∙ ap (filter mine) (sym (back-one k.packed sw ads ev p b)))
      ∙ ap (λ ms. filter mine (out_back k.packed ms) ++ filter mine H) (sym (run-same m p past known))
      ∙ ap (λ hd. filter mine (out_back k.packed (run (p ∷ past))) ++ filter mine hd) (sym (head-later k m one past known))

  split-by : (o : Option ProgramMap) (p : List ℕ) (past more : List (List ℕ)) → network ≡ more ++ (p ∷ past) → known_map (Some k.program) (p ∷ past) ≡ o
      → (before : Option ProgramMap) → known_map (Some k.program) past ≡ before → Split past before → Split (p ∷ past) o
  split-by o p past more is known None h s = head-split o p past more is h s known
  split-by o p past more is known (Some m) h s =
      let one : List (List ℕ) = p ∷ [] in
      subst (Split (p ∷ past)) (sym (known-later (Some k.program) m one past h) ∙ known) (behind-split m p past more is h s)

  split : (past more : List (List ℕ)) → network ≡ more ++ past → (o : Option ProgramMap) → known_map (Some k.program) past ≡ o → Split past o
  split [] more is None known = refl
  split [] more is (Some m) known = cc
  split (p ∷ past) more is o known =
      let there : network ≡ (more ++ p ∷ []) ++ past = is ∙ sym (append_assoc more (p ∷ []) past) in
      split-by o p past more is known (known_map (Some k.program) past) refl (split past (more ++ p ∷ []) there (known_map (Some k.program) past) refl)

finish : (takes : List ℕ → Bool) (o h e : List (List ℕ)) → reverse (filter takes o ++ filter takes h) ++ filter takes e ≡ filter takes (reverse h) ++ filter takes (reverse o ++ e)
finish takes o h e =
    ap (λ l. l ++ filter takes e) (reverse-append (filter takes o) (filter takes h))
    ∙ append_assoc (reverse (filter takes h)) (reverse (filter takes o)) (filter takes e)
    ∙ ap (λ l. l ++ (reverse (filter takes o) ++ filter takes e)) (sym (filter-reverse takes h))
    ∙ ap (λ l. filter takes (reverse h) ++ (l ++ filter takes e)) (sym (filter-reverse takes o))
    ∙ ap (λ l. filter takes (reverse h) ++ l) (sym (filter-append takes (reverse o) e))

pub streams_go_by_themselves : StreamsGoByThemselves
streams_go_by_themselves k network apart pid a = by (known_map (Some k.program) (reverse network)) refl
  where
    by : (o : Option ProgramMap) → known_map (Some k.program) (reverse network) ≡ o →
        filter (payload_on pid) (spliced_network k network) ≡ filter (payload_on pid) (reverse (head_at k (reverse network))) ++ filter (payload_on pid) (run_out k (reverse network))
    by None known = absurd (true≢false (sym a ∙ ap (is_among pid) (none-switched k (reverse network) known)))
    by (Some m) known =
        let back = reverse network in
        let takes : List ℕ → Bool = payload_on pid in
        let sw = switched_at k (reverse network) in
        let ads = adverts_at k (reverse network) in
        let ev = history_at k (reverse network) in
        let b = behind_head (Some k.program) (reverse network) in
        let R = end_of_run sw ads ev k.packed b in
        let O = out_back k.packed (moves sw ads ev b) in
        filter-append takes (reverse (switched_past k back)) (rest_at k back)
        ∙ ap (λ c. filter takes (reverse (switched_past k back)) ++ filter takes (if c then R else [])) (is-behind k m back known)
        ∙ ap (λ l. l ++ filter takes R) (filter-reverse takes (switched_past k back) ∙ ap reverse (split k pid back apart a back [] refl (Some m) known))
        ∙ finish takes O (head_at k back) R
        ∙ ap (λ l. filter takes (reverse (head_at k back)) ++ filter takes l)
        (sym (out-is k.packed sw ads ev (reverse b) ∙ ap (λ l. reverse (out_back k.packed (moves sw ads ev l)) ++ out_after k.packed (moves sw ads ev l) (puts_at_end sw ads ev l)) (reverse-reverse b)))
