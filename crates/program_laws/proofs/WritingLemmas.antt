-- What is written is read again.
use Rattle.std.specs.Option.{option_or}
use Rattle.std.proofs.Common.{◌≡◌, ℕ, ◌<◌, List, [], ◌∷◌, ◌++◌, true, false, refl, sym, ap, ◌∙◌, arith, Option, Some, None, map}
use Rattle.std.specs.List.{AllByRecursion}
use Rattle.std.specs.Prelude.{option_map, find, All, not, ◌==◌}
use Rattle.std.proofs.lemmas.List.{map-append}
use Rattle.std.proofs.lemmas.List.Elements.{All-cons, All-nil}
use Rattle.ts_packet.specs.Fields.{on}
use Rattle.ts_packet.specs.Duplicates.{last_of}
use Rattle.ts_packet.specs.Numbering.{one_past}
use Rattle.ts_packet.proofs.Cases.{by_test}
use Rattle.ts_packet.proofs.FieldLemmas.{payload_on-on}
use Rattle.psi_section.specs.Sections.{given, sections_after}
use Rattle.psi_section.specs.Laws.{CanBeGiven}
use Rattle.psi_section.proofs.RunLemmas.{Alike, sections_after-append}
use Rattle.psi_section.proofs.ReadBackLemmas.{read_back_in_turn}
use Rattle.psi_tables.specs.Association.{Pair, pat}
use Rattle.psi_tables.specs.Streams.{pid_in}
use Rattle.psi_tables.specs.ProgramMap.{ProgramMap, pmt, pmt_section}
use Rattle.program_follower.specs.declared.purpose.Listed.{Listed}
use Rattle.program_follower.specs.Program.{listed_as, listed_in, pairs_of, listed_by, lists, first_listed, listed, since_pat, Table, map_read, table_of, tables, all_tables, first_map}
use Rattle.program_laws.specs.Writing.{Along, number_on, Writing, section_by, section_out, table_out, packets_out, body, written, Off, MapGoesOut, ChangedGoesOut, IsClearBehind, IsClear, WrittenReadsAgain}
use Rattle.ts_packet.specs.Runs.{onto}
use Rattle.psi_section.proofs.GivenLemmas.{each-append, given_can_each}
use Rattle.program_laws.proofs.PacketLemmas.{Meets, one_past-below, fresh, meets_others, meets_own}
use Rattle.psi_section.proofs.ReadBackLemmas.{IsPayloadOn, turn_carry}
use Rattle.program_laws.proofs.ReadingLemmas.{listed_onto, since_onto, tables_onto, no_tables, none_at_pat, no_since}
use Rattle.program_follower.proofs.StreamLemmas.{one_pid}
use Rattle.program_follower.proofs.StepLemmas.{listed_stays, tables_at}
use Rattle.psi_section.proofs.RunLemmas.{given_off, given_on, alike_off, alike_none, alike_back, others_alike, others_give, alike_on}
use Rattle.ts_packet.proofs.RunLemmas.{onto-append}

-- ---- the PID of a PMT has 13 bits

abbrev pub Below : Option Listed → Type 0
Below None = Unit {0}
Below (Some l) = l.pid < 8192

pid_below : (n : ℕ) → pid_in n < 8192
pid_below n = omega arith

below_first : (o : Option Pair) → Below (option_map listed_as (option_map (λ (p : Pair). (p.number, pid_in p.pid_field)) o))
below_first None = tt
below_first (Some p) = pid_below p.pid_field

below_beside : (n : ℕ) (o : Option Pair) → Below (option_map (λ (pid : ℕ). listed_as (n, pid)) (option_map (λ (p : Pair). pid_in p.pid_field) o))
below_beside n None = tt
below_beside n (Some p) = pid_below p.pid_field

below_in : (wanted : Option ℕ) (pairs : List Pair) → Below (listed_in wanted pairs)
below_in None pairs = below_first (find (λ p. not (p.number == 0)) pairs)
below_in (Some n) pairs = below_beside n (find (λ p. p.number == n) pairs)

below_by : (wanted : Option ℕ) (o : Option (List Pair)) → Below (listed_by wanted o)
below_by wanted None = tt
below_by wanted (Some pairs) = below_in wanted pairs

below_or : (x y : Option Listed) → Below x → Below y → Below (option_or x y)
below_or None y h k = k
below_or (Some l) y h k = h

below_lists : (wanted : Option ℕ) (ss : List (List ℕ)) → Below (first_listed wanted ss)
below_lists wanted [] = tt
below_lists wanted (s ∷ ss) = below_or (lists wanted s) (first_listed wanted ss) (below_by wanted (pairs_of (pat s))) (below_lists wanted ss)

below_listed : (wanted : Option ℕ) (past : List (List ℕ)) → Below (listed wanted past)
below_listed wanted [] = tt
below_listed wanted (p ∷ past) = below_or (listed wanted past) (first_listed wanted (given 0 p past)) (below_listed wanted past) (below_lists wanted (given 0 p past))

pub listed_below : (wanted : Option ℕ) (past : List (List ℕ)) (l : Listed) → listed wanted past ≡ Some l → l.pid < 8192
listed_below wanted past l h = rw h at (below_listed wanted past)

-- ---- a packet is of one PID

pub off_other : (a b : ℕ) (p : List ℕ) → (a ≡ b → ⊥) → on a p ≡ true → Off b p
off_other a b p ne h = by_test (on b p) (λ y. absurd (ne (one_pid a b p h y))) (λ n. n)

pub carry_off : (a b : ℕ) (qs : List (List ℕ)) → (a ≡ b → ⊥) → AllByRecursion (IsPayloadOn a) qs → AllByRecursion (Off b) qs
carry_off a b [] ne h = tt
carry_off a b (q ∷ qs) ne h = (off_other a b q ne (payload_on-on a q h.0), carry_off a b qs ne h.1)

-- ---- changed sections

module _ (change : ProgramMap → ProgramMap) (program : ℕ) where
  one_out : (s : List ℕ) (o : Option ProgramMap) → map_read program (pmt s) ≡ o → MapGoesOut change program o
      → table_of program (section_by change s o) ≡ record { section = section_by change s o; program_map = option_map change o }
  one_out s None h g = ap (λ o. let t : Table = record { section = s; program_map = o } in t) h
  one_out s (Some m) h g = ap (λ o. let t : Table = record { section = pmt_section (change m); program_map = o } in t) g.reads

  all_out : (ss : List (List ℕ)) → AllByRecursion (ChangedGoesOut change program) (map (table_of program) ss)
      → map (table_of program) (map (section_out change) (map (table_of program) ss)) ≡ map (table_out change) (map (table_of program) ss)
  all_out [] h = refl
  all_out (s ∷ ss) h =
      ap (λ t. t ∷ map (table_of program) (map (section_out change) (map (table_of program) ss))) (one_out s (map_read program (pmt s)) refl h.0)
      ∙ ap (λ ts. table_out change (table_of program s) ∷ ts) (all_out ss h.1)

  one_can : (s : List ℕ) (o : Option ProgramMap) → MapGoesOut change program o → CanBeGiven s → CanBeGiven (section_by change s o)
  one_can s None g k = k
  one_can s (Some m) g k = g.given

  all_can : (ss : List (List ℕ)) → AllByRecursion (ChangedGoesOut change program) (map (table_of program) ss) → AllByRecursion CanBeGiven ss → All CanBeGiven (map (section_out change) (map (table_of program) ss))
  all_can [] h k = All-nil CanBeGiven
  all_can (s ∷ ss) h k =
      All-cons CanBeGiven (section_out change (table_of program s)) (map (section_out change) (map (table_of program) ss))
      (one_can s (map_read program (pmt s)) h.0 k.0) (all_can ss h.1 k.1)

-- ---- one packet more

-- what is out reads as the past does
record Reads (w : Writing) (wanted : Option ℕ) (past out : List (List ℕ)) : Type 0 where
  zero : Alike 0 out past
  same : listed wanted out ≡ listed wanted past
  tables : all_tables wanted out ≡ map (table_out w.change) (all_tables wanted past)
  counters : (l : Listed) → listed wanted past ≡ Some l → Meets l.pid out (last_of l.pid (since_pat wanted out))

module _ (w : Writing) (wanted : Option ℕ) (p : List ℕ) (past out : List (List ℕ)) (r : Reads w wanted past out) where
  -- packets off PID 0 list nothing
  quiet : (qs : List (List ℕ)) → AllByRecursion (Off 0) qs → listed wanted (onto out qs) ≡ listed wanted past
  quiet qs h = listed_onto wanted qs out ∙ ap (λ ss. option_or (listed wanted out) (first_listed wanted ss)) (others_give 0 qs out h) ∙ no_more (listed wanted out) ∙ r.same where
    no_more : (x : Option Listed) → option_or x None ≡ x
    no_more None = refl
    no_more (Some x) = refl

  -- before the PAT, and at it
  at_zero : (front : List (List ℕ)) → AllByRecursion (Off 0) front → listed wanted past ≡ None → Reads w wanted (p ∷ past) (p ∷ onto out front)
  at_zero front h none =
      let mid = onto out front in
      let z = others_alike 0 front out past h r.zero in
      let k : listed wanted mid ≡ None = quiet front h ∙ none in
      let since = no_since wanted p mid k in
      record {
        zero = alike_on 0 p mid past z;
        same = ap (λ x. option_or x (first_listed wanted (given 0 p mid))) (quiet front h) ∙ ap (λ ss. option_or (listed wanted past) (first_listed wanted ss)) (given_on 0 p mid past z);
        tables = none_at_pat wanted p mid k ∙ ap (map (table_out w.change)) (sym (none_at_pat wanted p past none));
        counters = λ l e. rw since tt;
      }

  before : (qs : List (List ℕ)) → AllByRecursion (Off 0) qs → on 0 p ≡ false → listed wanted past ≡ None → Reads w wanted (p ∷ past) (onto out qs)
  before qs h off none =
      let mid = onto out qs in
      let z = others_alike 0 qs out past h r.zero in
      let k : listed wanted mid ≡ None = quiet qs h ∙ none in
      let l : listed wanted (p ∷ past) ≡ None = ap (λ ss. option_or (listed wanted past) (first_listed wanted ss)) (given_off 0 p past off) ∙ ap (λ x. option_or x None) none in
      record {
        zero = alike_back 0 (p ∷ past) mid (alike_off 0 p past mid off (alike_back 0 mid past z));
        same = k ∙ sym l;
        tables = no_tables wanted mid k ∙ ap (map (table_out w.change)) (sym (no_tables wanted (p ∷ past) l));
        counters = λ m e. absurd (let f = sym l ∙ e in cc);
      }

  -- behind the PAT
  module _ (l : Listed) (known : listed wanted past ≡ Some l) where
    behind : (qs : List (List ℕ)) → Alike 0 (onto out qs) (p ∷ past)
        → map (table_of l.program) (sections_after (since_pat wanted out) l.pid qs) ≡ map (table_out w.change) (tables wanted p past)
        → Meets l.pid (onto out qs) (last_of l.pid (onto (since_pat wanted out) qs)) → Reads w wanted (p ∷ past) (onto out qs)
    behind qs z ts m =
        let here : listed wanted out ≡ Some l = r.same ∙ known in
        let e : listed wanted (onto out qs) ≡ Some l = listed_onto wanted qs out ∙ ap (λ x. option_or x (first_listed wanted (sections_after out 0 qs))) here in
        let f : listed wanted (p ∷ past) ≡ Some l = listed_stays wanted p past l known in
        record {
          zero = z;
          same = e ∙ sym f;
          tables =
              tables_onto wanted qs out l here
              ∙ ap (λ xs. xs ++ map (table_of l.program) (sections_after (since_pat wanted out) l.pid qs)) r.tables
              ∙ ap (λ xs. map (table_out w.change) (all_tables wanted past) ++ xs) ts
              ∙ sym (map-append (table_out w.change) (all_tables wanted past) (tables wanted p past));
          counters = λ k g.
              let same : Some l ≡ Some k = sym f ∙ g in
              let pid : l.pid ≡ k.pid = pid_same l k same in
              let since = since_onto wanted qs out l here in
              rw (since, ← pid) m;
        } where
          pid_same : (l k : Listed) → Some l ≡ Some k → l.pid ≡ k.pid
          pid_same l k e = let f : l ≡ k = cc in ap (λ (x : Listed). x.pid) f

    -- packets off the PMT's PID finish nothing, and nor does this one
    passing : (qs : List (List ℕ)) → AllByRecursion (Off l.pid) qs → on l.pid p ≡ false → Alike 0 (onto out qs) (p ∷ past) → Reads w wanted (p ∷ past) (onto out qs)
    passing qs h off z =
        let none : tables wanted p past ≡ [] = tables_at wanted p past l known ∙ ap (map (table_of l.program)) (given_off l.pid p (since_pat wanted past) off) in
        behind qs z
        (ap (map (table_of l.program)) (others_give l.pid qs (since_pat wanted out) h) ∙ sym (ap (map (table_out w.change)) none))
        (meets_others l.pid qs out (since_pat wanted out) h (r.counters l known))

    -- the sections of one on it go out
    writing : IsClear w wanted p past → IsClearBehind w wanted p past l → on l.pid p ≡ true
        → Reads w wanted (p ∷ past) (onto out (w.front p past ++ packets_out l.pid out (map (section_out w.change) (tables wanted p past))))
    writing clear b is =
        let pid = l.pid in
        let front = w.front p past in
        let ss = map (section_out w.change) (tables wanted p past) in
        let n = one_past (number_on pid out) in
        let qs = packets_out pid out ss in
        let since = since_pat wanted out in
        let pb = listed_below wanted past l known in
        let nb = one_past-below (number_on pid out) in
        let carry = turn_carry pid n ss pb nb in
        let none = carry_off pid 0 qs b.pid carry in
        let both = each-append (Off 0) front qs clear.front none in
        let z = others_alike 0 (front ++ qs) out past both r.zero in
        let off = off_other pid 0 p b.pid is in
        let g = given pid p (since_pat wanted past) in
        let here : tables wanted p past ≡ map (table_of l.program) g = tables_at wanted p past l known in
        let maps : AllByRecursion (ChangedGoesOut w.change l.program) (map (table_of l.program) g) = rw here at b.maps in
        let can : All CanBeGiven ss = rw here (all_can w.change l.program g maps (given_can_each pid p (since_pat wanted past))) in
        let m : Meets pid out (last_of pid (onto since front)) = rw (others_alike pid front since since b.front (alike_none pid since)).last (r.counters l known) in
        let back : sections_after (onto since front) pid qs ≡ ss = read_back_in_turn pid n ss (onto since front) pb nb can (fresh pid out (onto since front) pb m) in
        let all : sections_after since pid (front ++ qs) ≡ ss =
        sections_after-append pid since front qs ∙ ap (λ xs. xs ++ sections_after (onto since front) pid qs) (others_give pid front since b.front) ∙ back in
        let out_is : map (table_of l.program) ss ≡ map (table_out w.change) (tables wanted p past) =
        rw here (all_out w.change l.program g maps) in
        let k : Meets pid (onto out (front ++ qs)) (last_of pid (onto since (front ++ qs))) =
        rw (onto-append out front qs, onto-append since front qs) (meets_own pid qs (onto out front) (onto since front) carry (meets_others pid front out since b.front (r.counters l known))) in
        behind (front ++ qs) (alike_back 0 (p ∷ past) (onto out (front ++ qs)) (alike_off 0 p past (onto out (front ++ qs)) off (alike_back 0 (onto out (front ++ qs)) past z)))
        (ap (map (table_of l.program)) all ∙ out_is) k

  step_none : IsClear w wanted p past → listed wanted past ≡ None → Reads w wanted (p ∷ past) (onto out (w.front p past ++ w.place p past))
  step_none clear none =
      by_test (on 0 p)
      (λ y. let e : onto out (w.front p past ++ w.place p past) ≡ p ∷ onto out (w.front p past) = ap (λ qs. onto out (w.front p past ++ qs)) (clear.keeps y) ∙ onto-append out (w.front p past) (p ∷ []) in
      rw e (at_zero (w.front p past) clear.front none))
      (λ n. before (w.front p past ++ w.place p past) (each-append (Off 0) (w.front p past) (w.place p past) clear.front (clear.place n)) n none)

  step_off : IsClear w wanted p past → (l : Listed) → listed wanted past ≡ Some l → on l.pid p ≡ false → Reads w wanted (p ∷ past) (onto out (w.front p past ++ w.place p past))
  step_off clear l known off =
      let b = clear.behind l known in
      let front = w.front p past in
      let qs = front ++ w.place p past in
      let offs = each-append (Off l.pid) front (w.place p past) b.front (b.place off) in
      passing l known qs offs off
      (by_test (on 0 p)
      (λ y. let e : onto out qs ≡ p ∷ onto out front = ap (λ xs. onto out (front ++ xs)) (clear.keeps y) ∙ onto-append out front (p ∷ []) in
      rw e (alike_on 0 p (onto out front) past (others_alike 0 front out past clear.front r.zero)))
      (λ n. alike_back 0 (p ∷ past) (onto out qs) (alike_off 0 p past (onto out qs) n (alike_back 0 (onto out qs) past
      (others_alike 0 qs out past (each-append (Off 0) front (w.place p past) clear.front (clear.place n)) r.zero)))))

  step : IsClear w wanted p past → (o : Option Listed) → listed wanted past ≡ o → Reads w wanted (p ∷ past) (onto out (w.front p past ++ body w o p past (tables wanted p past) out))
  step clear None h = step_none clear h
  step clear (Some l) h =
      by_test (on l.pid p)
      (λ y. simp y (writing l h clear (clear.behind l h) y))
      (λ n. simp n (step_off clear l h n))

reads : (w : Writing) (wanted : Option ℕ) (past : List (List ℕ)) → Along (IsClear w wanted) past → Reads w wanted past (written w wanted past)
reads w wanted [] h = record { zero = alike_none 0 []; same = refl; tables = refl; counters = λ l e. tt }
reads w wanted (p ∷ past) h = step w wanted p past (written w wanted past) (reads w wanted past h.1) h.0 (listed wanted past) refl

-- ---- the head

pub option_or-map : {A B : Type 0} (f : A → B) (x y : Option A) → option_map f (option_or x y) ≡ option_or (option_map f x) (option_map f y)
option_or-map f None y = refl
option_or-map f (Some x) y = refl

pub first_map-out : (change : ProgramMap → ProgramMap) (ts : List Table) → first_map (map (table_out change) ts) ≡ option_map change (first_map ts)
first_map-out change [] = refl
first_map-out change (t ∷ ts) = ap (option_or (option_map change t.program_map)) (first_map-out change ts) ∙ sym (option_or-map change t.program_map (first_map ts))

pub written_reads_again : WrittenReadsAgain
written_reads_again w wanted past h =
    let r = reads w wanted past h in
    record { same_pat = r.same; tables = r.tables; head = ap first_map r.tables ∙ first_map-out w.change (all_tables wanted past) }
