-- The clock references of a switched stream stay.
use Rattle.std.proofs.Common.{◌≡◌, ℕ, ◌+◌, ◌<◌, List, [], ◌∷◌, ◌++◌, Bool, true, false, refl, sym, ap, ◌∙◌, Option, None, Some, append_assoc, if◌then◌else◌, subst, map, length, reverse, arith, slice_index, drop, take}
use Rattle.std.specs.Prelude.{flat_map}
use Rattle.std.specs.List.{AllByRecursion}
use Rattle.std.proofs.lemmas.Bool.{true≢false}
use Rattle.std.proofs.lemmas.List.{append-nil, reverse-append, reverse-reverse, drop-drop, get_or-drop}
use Rattle.std.proofs.lemmas.Grind.{common_steps, flat_map-append}
use Rattle.std.proofs.lemmas.List.Elements.{All-head}
use Rattle.ts_packet.specs.Fields.{on, pid_of, pcr, with_number, on_one, is_among}
use Rattle.ts_packet.specs.Clock.{clock_packet}
use Rattle.ts_packet.specs.Numbering.{one_past, last_number, number_out}
use Rattle.ts_packet.proofs.Cases.{by_test}
use Rattle.ts_packet.proofs.ClockLemmas.{keeps_clock}
use Rattle.ts_packet.proofs.FieldLemmas.{error-with, pid-with, below_16, control_with, length_with}
use Rattle.psi_tables.specs.ProgramMap.{ProgramMap}
use Rattle.psi_section.proofs.ReadBackLemmas.{turn_carry}
use Rattle.event_table.specs.Standing.{Standing}
use Rattle.program_follower.specs.declared.purpose.Listed.{Listed}
use Rattle.program_follower.specs.Program.{listed, tables, known_map, behind_head}
use Rattle.program_laws.specs.Writing.{number_on, section_out, packets_out, block}
use Rattle.program_laws.proofs.FaultLemmas.{same_listed}
use Rattle.program_laws.proofs.PacketLemmas.{one_past-below}
use Rattle.program_laws.proofs.WritingLemmas.{listed_below, off_other, carry_off}
use Rattle.splice_laws.specs.Splicing.{SliceUnit, stream}
use Rattle.unit_stream.specs.Times.{begins_one}
use Rattle.output_laws.specs.Output.{Move, Keep, Leave, Put, Packing, counter_steps, clock_alone, out_after}
use Rattle.output_laws.proofs.StepLemmas.{on-clock, on-same, pcr-error}
use Rattle.output_laws.proofs.GaplessLemmas.{one_below}
use Rattle.splice_plans.specs.Playing.{Adverts, History, played, as_played, end_known}
use Rattle.splice_plans.specs.Switching.{Setting, switched_at, history_at, front_at, rest_at, switching, switched_past, moves, puts_by, puts_before, puts_at_end, front_of, end_of_run}
use Rattle.splice_plans.specs.Known.{adverts_at}
use Rattle.ts_packet.proofs.RunLemmas.{reverse-onto}
use Rattle.switch_laws.specs.Whole.{stands_for, HavePids, TablesAreApart}
use Rattle.switch_laws.specs.Laws.{ArePackets}
use Rattle.switch_laws.specs.Standing.{IsNoTable, is_left, steps_before, steps_left}
use Rattle.switch_laws.specs.Clocks.{listed_clock, clock_on, clocks, HasNoClock, HaveNoClocks, ClocksStay}
use Rattle.switch_laws.proofs.BringLemmas.{closing_rule, running_rule, end_rule}
use Rattle.switch_laws.proofs.SoundLemmas.{each-closing, each-running, each-left, each-flat}
use Rattle.switch_laws.proofs.StandingLemmas.{packets_stand_as}
use Rattle.switch_laws.proofs.StreamLemmas.{all-reversed}
use Rattle.switch_laws.proofs.WholeLemmas.{packets-each, listed-later, known-later, adverts-same, not-behind, is-behind}

-- ---- a packet with another counter

flags-with : (n : ℕ) (p : List ℕ) → slice_index (with_number n p) 5 ≡ slice_index p 5
unfolding with_number
flags-with n p = get_or-drop 4 p 1 0

behind-with : (n : ℕ) (p : List ℕ) → drop 6 (with_number n p) ≡ drop 6 p
unfolding with_number
behind-with n p = sym (drop-drop 2 4 (with_number n p)) ∙ drop-drop 2 4 p

pcr-with : (n : ℕ) (p : List ℕ) → n < 16 → pcr (with_number n p) ≡ pcr p
unfolding pcr
pcr-with n p h = rw (error-with n p, control_with n p h, length_with n p, flags-with n p, behind-with n p) refl

on-with : (pid n : ℕ) (p : List ℕ) → on pid (with_number n p) ≡ on pid p
unfolding on
on-with pid n p = rw (error-with n p, pid-with n p) refl

-- ---- the reference

some-of : (b : Bool) (x c : List ℕ) → (if b then Some x else None) ≡ Some c → x ≡ c
some-of true x c h = cc
some-of false x c h = absurd (cc)

long-enough : (p : List ℕ) → length p ≡ 188 → length (take 6 (drop 6 p)) ≡ 6
long-enough p l = grind (arith, common_steps, l)

six-long : (p c : List ℕ) → length p ≡ 188 → pcr p ≡ Some c → length c ≡ 6
unfolding pcr
six-long p c l h = ap length (sym (some-of _ (take 6 (drop 6 p)) c h)) ∙ long-enough p l

none-here : (b : Bool) (o : Option (List ℕ)) → o ≡ None → (if b then listed_clock o else []) ≡ []
none-here true o h = ap listed_clock h
none-here false o h = refl

none-some : (l : Listed) (o : Option Listed) → o ≡ None → o ≡ Some l → ⊥
none-some l o h g = cc

module _ (pid : ℕ) where
  off-clock : (p : List ℕ) → on pid p ≡ false → clock_on pid p ≡ []
  off-clock p h = ap (λ b. if b then listed_clock (pcr p) else []) h

  off-clocks : (qs : List (List ℕ)) → AllByRecursion (λ q. on pid q ≡ false) qs → clocks pid qs ≡ []
  off-clocks [] h = refl
  off-clocks (q ∷ qs) h = ap (λ l. l ++ clocks pid qs) (off-clock q h.0) ∙ off-clocks qs h.1

  no-clocks : (qs : List (List ℕ)) → AllByRecursion HasNoClock qs → clocks pid qs ≡ []
  no-clocks [] h = refl
  no-clocks (q ∷ qs) h = ap (λ l. l ++ clocks pid qs) (none-here (on pid q) (pcr q) h.0) ∙ no-clocks qs h.1

  -- a packet of the stream that is kept
  kept-clock : (n : ℕ) (p : List ℕ) → n < 16 → clock_on pid (with_number n p) ≡ clock_on pid p
  kept-clock n p h =
      ap (λ b. if b then listed_clock (pcr (with_number n p)) else []) (on-with pid n p)
      ∙ ap (λ o. if on pid p then listed_clock o else []) (pcr-with n p h)

  -- and one that is left out
  alone-by : (n : ℕ) (p : List ℕ) (o : Option (List ℕ)) → pcr p ≡ o → n < 16 → pid_of p < 8192 → length p ≡ 188 → clocks pid (clock_alone (pid_of p) n o) ≡ clock_on pid p ++ []
  alone-by n p None is h low long = sym (ap (λ l. l ++ []) (none-here (on pid p) (pcr p) is))
  alone-by n p (Some c) is h low long =
      let k = keeps_clock p (clock_packet (pid_of p) n c) c (pid_of p) n refl refl low h (six-long p c long is) is in
      ap (λ b. (if b then listed_clock (pcr (clock_packet (pid_of p) n c)) else []) ++ []) (on-clock pid (pid_of p) n c low ∙ sym (on-same p pid (pcr-error p c is)))
      ∙ ap (λ o. (if on pid p then listed_clock o else []) ++ []) k.clock

  alone-clock : (n : ℕ) (p : List ℕ) → n < 16 → pid_of p < 8192 → length p ≡ 188 → clocks pid (clock_alone (pid_of p) n (pcr p)) ≡ clock_on pid p ++ []
  alone-clock n p h low long = alone-by n p (pcr p) refl h low long

-- ---- what is put in

module _ (packed : Packing) where
  abbrev IsBare : ℕ → SliceUnit → Type 0
  IsBare pid u = (n : ℕ) → n < 16 → AllByRecursion HasNoClock (packed pid u n)

  abbrev PutsNone : Move → Type 0
  PutsNone (Keep p) = ⊥
  PutsNone (Leave p) = ⊥
  PutsNone (Put pid u) = IsBare pid u

  none-append : (a b : List Move) → AllByRecursion PutsNone a → AllByRecursion PutsNone b → AllByRecursion PutsNone (a ++ b)
  none-append [] b h g = g
  none-append (m ∷ a) b h g = (h.0, none-append a b h.1 g)

  none-on : (pid : ℕ) (us : List SliceUnit) → AllByRecursion (IsBare pid) us → AllByRecursion PutsNone (map (λ (u : SliceUnit). Put pid u) us)
  none-on pid [] a = tt
  none-on pid (u ∷ us) a = (a.0, none-on pid us a.1)

  none-puts : (pids : List ℕ) (es : List Standing) (rule : ℕ → Standing → List SliceUnit) → ((pid : ℕ) (e : Standing) → AllByRecursion (IsBare pid) (rule pid e)) → AllByRecursion PutsNone (puts_by pids es rule)
  none-puts [] es rule h = tt
  none-puts (pid ∷ pids) es rule h =
      none-append (map (λ (u : SliceUnit). Put pid u) (flat_map (rule pid) es)) (puts_by pids es rule) (none-on pid (flat_map (rule pid) es) (each-flat (IsBare pid) (rule pid) (h pid) es)) (none-puts pids es rule h)

  bare-append : (a b : List (List ℕ)) → AllByRecursion HasNoClock a → AllByRecursion HasNoClock b → AllByRecursion HasNoClock (a ++ b)
  bare-append [] b h g = g
  bare-append (q ∷ a) b h g = (h.0, bare-append a b h.1 g)

  bare-after : (S ms : List Move) → AllByRecursion PutsNone ms → AllByRecursion HasNoClock (out_after packed S ms)
  bare-after S [] w = tt
  bare-after S (Keep p ∷ ms) w = absurd w.0
  bare-after S (Leave p ∷ ms) w = absurd w.0
  bare-after S (Put q u ∷ ms) w =
      let m = one_past (last_number (counter_steps packed q S)) in
      bare-append (packed q u m) (out_after packed (Put q u ∷ S) ms) (w.0 m (one_below (last_number (counter_steps packed q S)))) (bare-after (Put q u ∷ S) ms w.1)

  module _ (switched : List ℕ) (ads : Adverts) (events : History) (bare : HaveNoClocks packed ads) where
    front-bare : (p : List ℕ) (past : List (List ℕ)) → AllByRecursion HasNoClock (front_of switched ads events packed p past)
    front-bare p past =
        let es = played ads (events (p ∷ past)) in
        bare-after (moves switched ads events past) (puts_before switched ads events p past)
        (none-append (puts_by switched es (closing_rule switched ads events p past)) (puts_by switched es (running_rule switched ads events p past))
        (none-puts switched es (closing_rule switched ads events p past) (λ pid e. each-closing (IsBare pid) (begins_one switched) (stream switched pid) (as_played e) (end_known ads events e.start) (ads.units e pid) (bare e pid) p past))
        (none-puts switched es (running_rule switched ads events p past) (λ pid e. each-running (IsBare pid) (begins_one switched) (stream switched pid) (as_played e) (end_known ads events e.start) (ads.units e pid) (bare e pid) p past)))

    end-bare : (past : List (List ℕ)) → AllByRecursion HasNoClock (end_of_run switched ads events packed past)
    end-bare past =
        bare-after (moves switched ads events past) (puts_at_end switched ads events past)
        (none-puts switched (played ads (events past)) (end_rule switched ads events past) (λ pid e. each-left (IsBare pid) (begins_one switched) (stream switched pid) (as_played e) (end_known ads events e.start) (ads.units e pid) (bare e pid) past))

-- ---- the network, newest packet first

module _ (k : Setting) (network : List (List ℕ)) (apart : TablesAreApart k network) (bare : HaveNoClocks k.packed (adverts_at k network)) (long : ArePackets network) (pids : HavePids network)
    (pid : ℕ) (among : is_among pid (switched_at k network) ≡ true) where
  abbrev wanted : Option ℕ
  wanted = Some k.program

  not-cue : k.cue_pid ≡ pid → ⊥
  not-cue e = true≢false (sym (ap (λ n. is_among n (switched_at k network)) e ∙ among) ∙ apart.cue)

  not-map : (p : List ℕ) (past more : List (List ℕ)) → network ≡ more ++ (p ∷ past) → (l : Listed) → listed wanted past ≡ Some l → l.pid ≡ pid → ⊥
  not-map p past more is l h e =
      let split : network ≡ (more ++ p ∷ []) ++ past = is ∙ sym (append_assoc more (p ∷ []) past) in
      let there : listed wanted network ≡ Some l = ap (listed wanted) split ∙ listed-later wanted l (more ++ p ∷ []) past h in
      true≢false (sym (ap (λ n. is_among n (switched_at k network)) e ∙ among) ∙ apart.pmt l there)

  same-known : (m : ProgramMap) (p : List ℕ) (past more : List (List ℕ)) → network ≡ more ++ (p ∷ past) → known_map wanted past ≡ Some m → known_map wanted past ≡ known_map wanted network
  same-known m p past more is known =
      let split : network ≡ (more ++ p ∷ []) ++ past = is ∙ sym (append_assoc more (p ∷ []) past) in
      known ∙ sym (ap (known_map wanted) split ∙ known-later wanted m (more ++ p ∷ []) past known)

  bare-here : (past : List (List ℕ)) → known_map wanted past ≡ known_map wanted network → HaveNoClocks k.packed (adverts_at k past)
  bare-here past h = subst (HaveNoClocks k.packed) (sym (adverts-same k past network h)) bare

  front-by : (o : Option ProgramMap) (p : List ℕ) (past more : List (List ℕ)) → network ≡ more ++ (p ∷ past) → known_map wanted past ≡ o → clocks pid (front_at k p past) ≡ []
  front-by None p past more is known =
      ap (λ c. clocks pid (if c then front_of (switched_at k past) (adverts_at k past) (history_at k past) k.packed p (behind_head wanted past) else [])) (not-behind k past known)
  front-by (Some m) p past more is known =
      ap (λ c. clocks pid (if c then front_of (switched_at k past) (adverts_at k past) (history_at k past) k.packed p (behind_head wanted past) else [])) (is-behind k m past known)
      ∙ no-clocks pid (front_of (switched_at k past) (adverts_at k past) (history_at k past) k.packed p (behind_head wanted past))
      (front-bare k.packed (switched_at k past) (adverts_at k past) (history_at k past) (bare-here past (same-known m p past more is known)) p (behind_head wanted past))

  module _ (p : List ℕ) (past more : List (List ℕ)) (is : network ≡ more ++ (p ∷ past)) where
    size : length p ≡ 188
    size = let f : List ℕ → Type 0 = λ q. length q ≡ 188 in All-head f p past (packets-each f more (p ∷ past) (subst ArePackets is long))

    low : pid_of p < 8192
    low = let f : List ℕ → Type 0 = λ q. pid_of q < 8192 in All-head f p past (packets-each f more (p ∷ past) (subst HavePids is pids))

    place-here : IsNoTable k p past → clocks pid (stands_for k p past) ≡ clock_on pid p ++ []
    place-here n =
        let s = packets_stand_as k p past in
        by_test (on k.cue_pid p)
        (λ y. ap (clocks pid) (s.cue n y) ∙ sym (ap (λ l. l ++ []) (off-clock pid p (off_other k.cue_pid pid p not-cue y))))
        (λ c. by_test (on_one (switched_at k past) p)
        (λ w. by_test (is_left k p past)
        (λ d. ap (clocks pid) (s.left n c w d) ∙ alone-clock pid (number_out p (steps_left k p past)) p (below_16 _) low size)
        (λ d. ap (clocks pid) (s.kept n c w d) ∙ ap (λ l. l ++ []) (kept-clock pid (number_out p (steps_before k p past)) p (below_16 _))))
        (λ w. ap (clocks pid) (s.other n c w)))

    table-here : (l : Listed) → listed wanted past ≡ Some l → on l.pid p ≡ true → clocks pid (stands_for k p past) ≡ clock_on pid p ++ []
    table-here l h y =
        let s = packets_stand_as k p past in
        let ne = not-map p past more is l h in
        let out = switched_past k past in
        let ss = map (section_out (switching k).change) (tables wanted p past) in
        ap (clocks pid) (s.sections l h y)
        ∙ off-clocks pid (packets_out l.pid out ss) (carry_off l.pid pid (packets_out l.pid out ss) ne (turn_carry l.pid (one_past (number_on l.pid out)) ss (listed_below wanted past l h) (one_past-below (number_on l.pid out))))
        ∙ sym (ap (λ l. l ++ []) (off-clock pid p (off_other l.pid pid p ne y)))

    listed-here : (o : Option Listed) → listed wanted past ≡ o → clocks pid (stands_for k p past) ≡ clock_on pid p ++ []
    listed-here None h = place-here (λ l g. absurd (none-some l (listed wanted past) h g))
    listed-here (Some l) h = by_test (on l.pid p)
        (λ y. table-here l h y)
        (λ n. place-here (λ m g. subst (λ (x : Listed). on x.pid p ≡ false) (same_listed l m (sym h ∙ g)) n))

  stay : (past more : List (List ℕ)) → network ≡ more ++ past → clocks pid (reverse (switched_past k past)) ≡ clocks pid (reverse past)
  stay [] more is = refl
  stay (p ∷ past) more is =
      let out = switched_past k past in
      let b = block (switching k) wanted p past out in
      ap (clocks pid) (reverse-onto out b)
      ∙ flat_map-append (clock_on pid) (reverse out) b
      ∙ ap (λ l. clocks pid (reverse out) ++ l) (flat_map-append (clock_on pid) (front_at k p past) (stands_for k p past)
      ∙ ap (λ l. l ++ clocks pid (stands_for k p past)) (front-by (known_map wanted past) p past more is refl)
      ∙ listed-here p past more is (listed wanted past) refl)
      ∙ ap (λ l. l ++ (clock_on pid p ++ [])) (stay past (more ++ p ∷ []) (is ∙ sym (append_assoc more (p ∷ []) past)))
      ∙ sym (flat_map-append (clock_on pid) (reverse past) (p ∷ []))
      ∙ ap (clocks pid) (sym (reverse-append (p ∷ []) past))

  rest-by : (o : Option ProgramMap) → known_map wanted network ≡ o → clocks pid (rest_at k network) ≡ []
  rest-by None known = ap (λ c. clocks pid (if c then end_of_run (switched_at k network) (adverts_at k network) (history_at k network) k.packed (behind_head wanted network) else [])) (not-behind k network known)
  rest-by (Some m) known =
      ap (λ c. clocks pid (if c then end_of_run (switched_at k network) (adverts_at k network) (history_at k network) k.packed (behind_head wanted network) else [])) (is-behind k m network known)
      ∙ no-clocks pid (end_of_run (switched_at k network) (adverts_at k network) (history_at k network) k.packed (behind_head wanted network))
      (end-bare k.packed (switched_at k network) (adverts_at k network) (history_at k network) bare (behind_head wanted network))

pub clocks_stay : ClocksStay
clocks_stay k network apart bare long pids pid among =
    let back = reverse network in
    let l = all-reversed (λ (p : List ℕ). length p ≡ 188) network long in
    let w = all-reversed (λ (p : List ℕ). pid_of p < 8192) network pids in
    flat_map-append (clock_on pid) (reverse (switched_past k back)) (rest_at k back)
    ∙ ap (λ qs. clocks pid (reverse (switched_past k back)) ++ qs) (rest-by k back apart bare l w pid among (known_map (Some k.program) back) refl)
    ∙ append-nil (clocks pid (reverse (switched_past k back)))
    ∙ stay k back apart bare l w pid among back [] refl
    ∙ ap (clocks pid) (reverse-reverse network)
