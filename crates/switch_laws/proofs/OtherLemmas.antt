-- The packets of other PIDs stay.
use Rattle.std.proofs.Common.{◌≡◌, ℕ, ◌<◌, List, [], ◌∷◌, ◌++◌, Bool, true, false, refl, sym, ap, ◌∙◌, Option, None, Some, append_assoc, if◌then◌else◌, subst, map, reverse}
use Rattle.std.specs.Prelude.{filter, flat_map, ◌==◌}
use Rattle.std.specs.List.{AllByRecursion}
use Rattle.std.proofs.lemmas.Bool.{true≢false, or_left, or_right}
use Rattle.std.proofs.lemmas.List.{append-nil, reverse-reverse}
use Rattle.std.proofs.lemmas.List.Elements.{All-head, filter-append}
use Rattle.ts_packet.specs.Fields.{on, pid_of, pcr, on_one, is_among}
use Rattle.ts_packet.specs.Numbering.{one_past, last_number, number_out}
use Rattle.ts_packet.proofs.Cases.{by_test, test-same}
use Rattle.ts_packet.proofs.RunLemmas.{filter-reverse}
use Rattle.unit_stream.specs.Fates.{is_left_out}
use Rattle.unit_stream.specs.UnitPackets.{AllOn}
use Rattle.ts_packet.proofs.FieldLemmas.{payload_on-on, pid_is}
use Rattle.psi_tables.specs.ProgramMap.{ProgramMap}
use Rattle.event_table.specs.Standing.{Standing}
use Rattle.program_follower.specs.declared.purpose.Listed.{Listed}
use Rattle.program_follower.specs.Program.{listed, known_map, behind_head}
use Rattle.program_laws.specs.Writing.{Along}
use Rattle.program_laws.specs.Behind.{Passes}
use Rattle.program_laws.proofs.HeadLemmas.{others_are_written}
use Rattle.splice_laws.specs.Splicing.{SliceUnit}
use Rattle.output_laws.specs.Output.{Move, Keep, Leave, Put, Packing, counter_steps, clock_alone, out_at, out_after}
use Rattle.output_laws.specs.Others.{is_off}
use Rattle.output_laws.proofs.GaplessLemmas.{one_below}
use Rattle.output_laws.proofs.OtherLemmas.{off_on, off-kept, skip_clock}
use Rattle.splice_plans.specs.Playing.{Adverts, History, played, is_inside}
use Rattle.splice_plans.specs.Switching.{Setting, switched_at, history_at, front_at, place_at, rest_at, switching, switched_past, moves, puts_by, puts_before, puts_at_end, place_of, front_of, end_of_run}
use Rattle.splice_plans.specs.Known.{adverts_at}
use Rattle.switch_laws.specs.Whole.{table_pids, pmt_pids, ArePacked, HavePids}
use Rattle.switch_laws.specs.Standing.{touched, OthersStay}
use Rattle.switch_laws.proofs.BringLemmas.{closing_rule, running_rule, end_rule}
use Rattle.switch_laws.proofs.SoundLemmas.{EachSound, sound-before, sound-end}
use Rattle.switch_laws.proofs.StreamLemmas.{all-reversed}
use Rattle.switch_laws.proofs.WholeLemmas.{along-each, packets-each, listed-later, known-later, adverts-same, switched-same, none-switched, not-behind, is-behind}

-- ---- lists of PIDs

among-behind : (pid : ℕ) (qs ps : List ℕ) → is_among pid ps ≡ true → is_among pid (qs ++ ps) ≡ true
among-behind pid [] ps h = h
among-behind pid (q ∷ qs) ps h = or_right (q == pid) (is_among pid (qs ++ ps)) (among-behind pid qs ps h)

among-before : (pid : ℕ) (qs ps : List ℕ) → is_among pid qs ≡ true → is_among pid (qs ++ ps) ≡ true
among-before pid [] ps h = absurd (true≢false (sym h))
among-before pid (q ∷ qs) ps h = by_test (q == pid) (λ y. or_left (q == pid) (is_among pid (qs ++ ps)) y) (λ n. or_right (q == pid) (is_among pid (qs ++ ps)) (among-before pid qs ps (simp n at h)))

pub among-self : (pid : ℕ) (qs : List ℕ) → is_among pid (pid ∷ qs) ≡ true
among-self pid qs = or_left (pid == pid) (is_among pid qs) (test-same pid)

-- each of these is one of those
abbrev pub Within : List ℕ → List ℕ → Type 0
Within pids all = AllByRecursion (λ pid. is_among pid all ≡ true) pids

within-more : (q : ℕ) (pids all : List ℕ) → Within pids all → Within pids (q ∷ all)
within-more q [] all w = tt
within-more q (pid ∷ pids) all w = (or_right (q == pid) (is_among pid all) w.0, within-more q pids all w.1)

pub within-self : (pids : List ℕ) → Within pids pids
within-self [] = tt
within-self (pid ∷ pids) = (among-self pid pids, within-more pid pids pids (within-self pids))

within-behind : (qs pids all : List ℕ) → Within pids all → Within pids (qs ++ all)
within-behind qs [] all w = tt
within-behind qs (pid ∷ pids) all w = (among-behind pid qs all w.0, within-behind qs pids all w.1)

-- ---- what is put in

module _ (packed : Packing) (all : List ℕ) where
  abbrev Off : List ℕ → Type 0
  Off q = is_off all q ≡ false

  abbrev IsPutWithin : Move → Type 0
  IsPutWithin (Keep p) = ⊥
  IsPutWithin (Leave p) = ⊥
  IsPutWithin (Put q u) = is_among q all ≡ true

  put-append : (a b : List Move) → AllByRecursion IsPutWithin a → AllByRecursion IsPutWithin b → AllByRecursion IsPutWithin (a ++ b)
  put-append [] b h g = g
  put-append (m ∷ a) b h g = (h.0, put-append a b h.1 g)

  put-on : (pid : ℕ) (us : List SliceUnit) → is_among pid all ≡ true → AllByRecursion IsPutWithin (map (λ (u : SliceUnit). Put pid u) us)
  put-on pid [] w = tt
  put-on pid (u ∷ us) w = (w, put-on pid us w)

  put-by : (pids : List ℕ) (es : List Standing) (rule : ℕ → Standing → List SliceUnit) → Within pids all → AllByRecursion IsPutWithin (puts_by pids es rule)
  put-by [] es rule w = tt
  put-by (pid ∷ pids) es rule w = put-append (map (λ (u : SliceUnit). Put pid u) (flat_map (rule pid) es)) (puts_by pids es rule) (put-on pid (flat_map (rule pid) es) w.0) (put-by pids es rule w.1)

  off-append : (a b : List (List ℕ)) → AllByRecursion Off a → AllByRecursion Off b → AllByRecursion Off (a ++ b)
  off-append [] b h g = g
  off-append (q ∷ a) b h g = (h.0, off-append a b h.1 g)

  off-all : (pid : ℕ) (qs : List (List ℕ)) → is_among pid all ≡ true → AllOn pid qs → AllByRecursion Off qs
  off-all pid [] a h = tt
  off-all pid (q ∷ qs) a h = (off_on packed all pid q a (payload_on-on pid q h.0), off-all pid qs a h.1)

  off-after : (S ms : List Move) → EachSound packed ms → AllByRecursion IsPutWithin ms → AllByRecursion Off (out_after packed S ms)
  off-after S [] s w = tt
  off-after S (Keep p ∷ ms) s w = absurd w.0
  off-after S (Leave p ∷ ms) s w = absurd w.0
  off-after S (Put q u ∷ ms) s w =
      let m = one_past (last_number (counter_steps packed q S)) in
      off-append (packed q u m) (out_after packed (Put q u ∷ S) ms) (off-all q (packed q u m) w.0 (s.0 m (one_below (last_number (counter_steps packed q S)))).on_pid) (off-after (Put q u ∷ S) ms s.1 w.1)

  none-off : (qs : List (List ℕ)) → AllByRecursion Off qs → filter (is_off all) qs ≡ []
  none-off [] h = refl
  none-off (q ∷ qs) h = let n = h.0 in simp n (none-off qs h.1)

  -- a packet of a switched stream
  switched-off : (pids : List ℕ) (p : List ℕ) → Within pids all → on_one pids p ≡ true → (is_off all p ≡ false) × (is_among (pid_of p) all ≡ true)
  switched-off [] p w s = absurd (true≢false (sym s))
  switched-off (pid ∷ pids) p w s = by_test (on pid p)
      (λ y. (off_on packed all pid p w.0 y, ap (λ n. is_among n all) (pid_is pid p y) ∙ w.0))
      (λ n. switched-off pids p w.1 (simp n at s))

  module _ (switched : List ℕ) (ads : Adverts) (events : History) (w : Within switched all) (good : ArePacked packed ads) where
    pub front-off : (p : List ℕ) (past : List (List ℕ)) → AllByRecursion Off (front_of switched ads events packed p past)
    front-off p past =
        let es = played ads (events (p ∷ past)) in
        off-after (moves switched ads events past) (puts_before switched ads events p past) (sound-before packed switched ads events good p past)
        (put-append (puts_by switched es (closing_rule switched ads events p past)) (puts_by switched es (running_rule switched ads events p past))
        (put-by switched es (closing_rule switched ads events p past) w) (put-by switched es (running_rule switched ads events p past) w))

    pub end-off : (past : List (List ℕ)) → AllByRecursion Off (end_of_run switched ads events packed past)
    end-off past =
        off-after (moves switched ads events past) (puts_at_end switched ads events past) (sound-end packed switched ads events good past)
        (put-by switched (played ads (events past)) (end_rule switched ads events past) w)

    fate-off : (d : Bool) (p : List ℕ) (S : List Move) → is_off all p ≡ false → is_among (pid_of p) all ≡ true → pid_of p < 8192 → filter (is_off all) (out_at packed (if d then Leave p else Keep p) S) ≡ []
    fate-off true p S o a l =
        let n = number_out p (counter_steps packed (pid_of p) (Leave p ∷ S)) in
        ap (filter (is_off all)) (sym (append-nil (clock_alone (pid_of p) n (pcr p)))) ∙ skip_clock packed all (pid_of p) n (pcr p) [] l a
    fate-off false p S o a l = let e = off-kept packed all p S ∙ o in simp e refl

    pub place-off : (p : List ℕ) (past : List (List ℕ)) → on_one switched p ≡ true → pid_of p < 8192 → filter (is_off all) (place_of switched ads events packed p past) ≡ filter (is_off all) (p ∷ [])
    place-off p past s l =
        let b = switched-off switched p w s in
        let o = b.0 in
        fate-off (is_left_out (λ pid time. is_inside ads (events (p ∷ past)) time) switched p past switched) p (reverse (puts_before switched ads events p past) ++ moves switched ads events past) o b.1 l
        ∙ sym (none-off (p ∷ []) (o, tt))

-- ---- the network

module _ (k : Setting) (network : List (List ℕ)) (good : ArePacked k.packed (adverts_at k network)) (pids : HavePids network) where
  abbrev wanted : Option ℕ
  wanted = Some k.program

  abbrev all : List ℕ
  all = touched k network

  abbrev takes : List ℕ → Bool
  takes q = is_off (touched k network) q

  cue-off : (q : List ℕ) → on k.cue_pid q ≡ true → takes q ≡ false
  cue-off q o = off_on k.packed (touched k network) k.cue_pid q (among-self k.cue_pid (pmt_pids (listed (Some k.program) network) ++ switched_at k network)) o

  pmt-off : (p : List ℕ) (past more : List (List ℕ)) → network ≡ more ++ (p ∷ past) → (l : Listed) → listed (Some k.program) past ≡ Some l → (q : List ℕ) → on l.pid q ≡ true → takes q ≡ false
  pmt-off p past more is l h q o =
      let e : network ≡ (more ++ p ∷ []) ++ past = is ∙ sym (append_assoc more (p ∷ []) past) in
      let there : listed (Some k.program) network ≡ Some l = ap (listed (Some k.program)) e ∙ listed-later (Some k.program) l (more ++ p ∷ []) past h in
      off_on k.packed (touched k network) l.pid q
      (ap (λ (o : Option Listed). is_among l.pid (k.cue_pid ∷ (pmt_pids o ++ switched_at k network))) there
      ∙ or_right (k.cue_pid == l.pid) (is_among l.pid (l.pid ∷ switched_at k network)) (among-self l.pid (switched_at k network))) o

  same-known : (m : ProgramMap) (p : List ℕ) (past more : List (List ℕ)) → network ≡ more ++ (p ∷ past) → known_map wanted past ≡ Some m → known_map wanted past ≡ known_map wanted network
  same-known m p past more is known =
      let e : network ≡ (more ++ p ∷ []) ++ past = is ∙ sym (append_assoc more (p ∷ []) past) in
      known ∙ sym (ap (known_map wanted) e ∙ known-later wanted m (more ++ p ∷ []) past known)

  within-here : (past : List (List ℕ)) → known_map wanted past ≡ known_map wanted network → Within (switched_at k past) (touched k network)
  within-here past h = subst (λ sw. Within sw (touched k network)) (sym (switched-same k past network h)) (within-behind (table_pids k network) (switched_at k network) (switched_at k network) (within-self (switched_at k network)))

  good-here : (past : List (List ℕ)) → known_map wanted past ≡ known_map wanted network → ArePacked k.packed (adverts_at k past)
  good-here past h = subst (ArePacked k.packed) (sym (adverts-same k past network h)) good

  front-left : (o : Option ProgramMap) (p : List ℕ) (past more : List (List ℕ)) → network ≡ more ++ (p ∷ past) → known_map wanted past ≡ o → AllByRecursion (λ q. takes q ≡ false) (front_at k p past)
  front-left None p past more is known =
      subst (λ c. AllByRecursion (λ q. takes q ≡ false) (if c then front_of (switched_at k past) (adverts_at k past) (history_at k past) k.packed p (behind_head wanted past) else [])) (sym (not-behind k past known)) tt
  front-left (Some m) p past more is known =
      let s = same-known m p past more is known in
      subst (λ c. AllByRecursion (λ q. takes q ≡ false) (if c then front_of (switched_at k past) (adverts_at k past) (history_at k past) k.packed p (behind_head wanted past) else [])) (sym (is-behind k m past known))
      (front-off k.packed (touched k network) (switched_at k past) (adverts_at k past) (history_at k past) (within-here past s) (good-here past s) p (behind_head wanted past))

  strip-left : (p : List ℕ) → filter takes (if on k.cue_pid p then [] else p ∷ []) ≡ filter takes (p ∷ [])
  strip-left p = by_test (on k.cue_pid p) (λ y. let n = cue-off p y in simp (y, n) refl) (λ n. simp n refl)

  pick : (c s : Bool) (a : List (List ℕ)) (p : List ℕ) → filter takes (if c then [] else p ∷ []) ≡ filter takes (p ∷ []) → (s ≡ true → filter takes a ≡ filter takes (p ∷ [])) →
      filter takes (if c then [] else (if s then a else p ∷ [])) ≡ filter takes (p ∷ [])
  pick true s a p g h = g
  pick false true a p g h = h refl
  pick false false a p g h = refl

  place-left : (o : Option ProgramMap) (p : List ℕ) (past more : List (List ℕ)) → network ≡ more ++ (p ∷ past) → known_map wanted past ≡ o → filter takes (place_at k p past) ≡ filter takes (p ∷ [])
  place-left None p past more is known =
      ap (λ sw. filter takes (if on k.cue_pid p then [] else (if on_one sw p then place_of (switched_at k past) (adverts_at k past) (history_at k past) k.packed p (behind_head wanted past) else p ∷ []))) (none-switched k past known)
      ∙ strip-left p
  place-left (Some m) p past more is known =
      let s = same-known m p past more is known in
      let f : List ℕ → Type 0 = λ q. pid_of q < 8192 in
      let l = All-head f p past (packets-each f more (p ∷ past) (subst HavePids is pids)) in
      pick (on k.cue_pid p) (on_one (switched_at k past) p) (place_of (switched_at k past) (adverts_at k past) (history_at k past) k.packed p (behind_head wanted past)) p (strip-left p)
      (λ y. place-off k.packed (touched k network) (switched_at k past) (adverts_at k past) (history_at k past) (within-here past s) (good-here past s) p (behind_head wanted past) y l)

  pub passes : Along (Passes takes (switching k) wanted) network
  passes = along-each (Passes takes (switching k) wanted) network network [] refl
      (λ p past more is. record {
        front = front-left (known_map wanted past) p past more is refl;
        place = place-left (known_map wanted past) p past more is refl;
        own = pmt-off p past more is;
      })

  rest-by : (o : Option ProgramMap) → known_map wanted network ≡ o → filter takes (rest_at k network) ≡ []
  rest-by None known = ap (λ c. filter takes (if c then end_of_run (switched_at k network) (adverts_at k network) (history_at k network) k.packed (behind_head wanted network) else [])) (not-behind k network known)
  rest-by (Some m) known =
      ap (λ c. filter takes (if c then end_of_run (switched_at k network) (adverts_at k network) (history_at k network) k.packed (behind_head wanted network) else [])) (is-behind k m network known)
      ∙ none-off k.packed (touched k network) (end_of_run (switched_at k network) (adverts_at k network) (history_at k network) k.packed (behind_head wanted network))
      (end-off k.packed (touched k network) (switched_at k network) (adverts_at k network) (history_at k network) (within-here network refl) (good-here network refl) (behind_head wanted network))

  pub rest-left : filter takes (rest_at k network) ≡ []
  rest-left = rest-by (known_map wanted network) refl

pub others_stay : OthersStay
others_stay k network good pids =
    let back = reverse network in
    let takes : List ℕ → Bool = λ q. is_off (touched k (reverse network)) q in
    let l = all-reversed (λ (p : List ℕ). pid_of p < 8192) network pids in
    filter-append takes (reverse (switched_past k back)) (rest_at k back)
    ∙ ap (λ qs. filter takes (reverse (switched_past k back)) ++ qs) (rest-left k back good l)
    ∙ append-nil (filter takes (reverse (switched_past k back)))
    ∙ filter-reverse takes (switched_past k back)
    ∙ ap reverse (others_are_written takes (switching k) (Some k.program) back (passes k back good l))
    ∙ sym (filter-reverse takes back)
    ∙ ap (filter takes) (reverse-reverse network)
