-- What goes out of two runs, packet by packet.
use Rattle.std.proofs.Common.{◌≡◌, ℕ, List, [], ◌∷◌, ◌++◌, Bool, true, false, refl, sym, ap, ◌∙◌, subst, Option, None, Some, map, if◌then◌else◌}
use Rattle.std.specs.Prelude.{ℤ, is_some, option_map}
use Rattle.std.proofs.lemmas.Bool.{true≢false}
use Rattle.ts_packet.specs.Fields.{on, on_one, is_among}
use Rattle.ts_packet.specs.Runs.{onto}
use Rattle.unit_stream.specs.Times.{high}
use Rattle.psi_tables.specs.ProgramMap.{ProgramMap}
use Rattle.program_follower.specs.declared.purpose.Listed.{Listed}
use Rattle.program_follower.specs.Program.{listed, Table, tables, known_map, program_in}
use Rattle.program_laws.specs.Writing.{section_out, packets_out, body, block}
use Rattle.program_laws.proofs.WritingLemmas.{off_other}
use Rattle.event_table.specs.Standing.{Standing}
use Rattle.armed_laws.proofs.Proofs.{events_never_meet}
use Rattle.output_laws.specs.Output.{out_after}
use Rattle.splice_plans.specs.Playing.{Adverts, History}
use Rattle.splice_plans.specs.Switching.{Setting, switched_at, high_at, events_at, head_at, history_at, is_behind_head, front_of, place_of, end_of_run, front_at, place_at, moves, switching, switched_past}
use Rattle.splice_plans.specs.Known.{adverts_at, behind_at}
use Rattle.splice_plans.proofs.PutLemmas.{puts_at_unit_starts}
use Rattle.known_laws.proofs.HeadLemmas.{none-switched, same-switched, same-history, high-next, history-now, history-next}
use Rattle.unit_stream.proofs.ClockLemmas.{begins_off_all}
use Rattle.thinned_laws.specs.Beside.{Beside, Shared, Here, There, one_run, other_run, DifferOn, CuesAreApart, AgreeReached, AgreeAlong, AgreeAtTheEnd}
use Rattle.thinned_laws.specs.Laws.{SameEventsSameOutput}
use Rattle.thinned_laws.proofs.Flags.{OffAll}
use Rattle.thinned_laws.proofs.Known.{if-same, Agrees, NeverMeet}
use Rattle.thinned_laws.proofs.Moves.{front-same, place-same, rest-same}
use Rattle.thinned_laws.proofs.Tables.{not-switched, off-all, apart-before, listed-same, tables-same, map-same, switched-same, adverts-same, is-behind-same, behind_rows, differ-behind, behind-one, behind-other}

module _ (k : Setting) where
  pub never-meet : (past : List (List ℕ)) → NeverMeet (history_at k past)
  never-meet past = λ behind. events_never_meet k.cue_pid (high_at k) (behind ++ head_at k past)

  -- with these streams the rows behind a head agree
  abbrev pub AgreeBehind : List Beside → Type 0
  AgreeBehind rows = Agrees (switched_at k (one_run rows)) (history_at k (one_run rows)) (history_at k (other_run rows)) (behind_rows k rows)

  abbrev NextAgrees : List ℕ → List Beside → Type 0
  NextAgrees p rows = Agrees (switched_at k (one_run rows)) (history_at k (one_run rows)) (history_at k (other_run rows)) (Shared p ∷ behind_rows k rows)

  with-three : {A B C : Type 0} (P : A → B → C → Type 0) {a a' : A} {b b' : B} {c c' : C} → a ≡ a' → b ≡ b' → c ≡ c' → P a' b' c' → P a b c
  with-three P h i j x = rw (h, i, j) x

  -- with one packet more, behind the head
  next-agrees : (p : List ℕ) (rows : List Beside) → CuesAreApart k (one_run rows) → DifferOn k.cue_pid rows → (m : ProgramMap) → known_map (Some k.program) (one_run rows) ≡ Some m
      → (on_one (switched_at k (one_run rows)) p ≡ true → AgreeReached (high_at k (p ∷ one_run rows)) (events_at k (p ∷ one_run rows)) (events_at k (p ∷ other_run rows)))
      → AgreeBehind rows → NextAgrees p rows
  next-agrees p rows a d m is now past = (
    λ s. with-three AgreeReached
        (ap (λ (b : List (List ℕ)). high (switched_at k (one_run rows)) (p ∷ b)) (behind-one k rows) ∙ sym (high-next k p (one_run rows) m is))
        (ap (λ (b : List (List ℕ)). history_at k (one_run rows) (p ∷ b)) (behind-one k rows) ∙ history-next k p (one_run rows))
        (ap (λ (b : List (List ℕ)). history_at k (other_run rows) (p ∷ b)) (behind-other k rows a d) ∙ history-next k p (other_run rows))
        (now s),
    past,
  )

  known-other : (rows : List Beside) → CuesAreApart k (one_run rows) → DifferOn k.cue_pid rows → (m : ProgramMap) → known_map (Some k.program) (one_run rows) ≡ Some m → known_map (Some k.program) (other_run rows) ≡ Some m
  known-other rows a d m is = sym (map-same k rows a d) ∙ is

  pub agree-behind : (rows : List Beside) → CuesAreApart k (one_run rows) → DifferOn k.cue_pid rows → AgreeAlong k rows → AgreeBehind rows
  agree-behind [] a d g = tt
  agree-behind (Shared p ∷ rows) a d g =
      let b = apart-before k p (one_run rows) a in
      by (agree-behind rows b d g.1) b (known_map (Some k.program) (one_run rows)) refl
    where
      by : AgreeBehind rows → CuesAreApart k (one_run rows) → (o : Option ProgramMap) → known_map (Some k.program) (one_run rows) ≡ o
          → Agrees (switched_at k (p ∷ one_run rows)) (history_at k (p ∷ one_run rows)) (history_at k (p ∷ other_run rows)) (if is_some (known_map (Some k.program) (one_run rows)) then Shared p ∷ behind_rows k rows else [])
      by past b None is =
          subst (λ (o : Option ProgramMap). Agrees (switched_at k (p ∷ one_run rows)) (history_at k (p ∷ one_run rows)) (history_at k (p ∷ other_run rows)) (if is_some o then Shared p ∷ behind_rows k rows else [])) (sym is) tt
      by past b (Some m) is =
          subst (λ (o : Option ProgramMap). Agrees (switched_at k (p ∷ one_run rows)) (history_at k (p ∷ one_run rows)) (history_at k (p ∷ other_run rows)) (if is_some o then Shared p ∷ behind_rows k rows else [])) (sym is)
          (with-three (λ (sw : List ℕ) (h i : History). Agrees sw h i (Shared p ∷ behind_rows k rows))
          (same-switched k p (one_run rows) m is) (same-history k p (one_run rows) m is) (same-history k p (other_run rows) m (known-other rows b d m is))
          (next-agrees p rows b d m is g.0 past))
  agree-behind (Here q ∷ rows) a d g =
      let b = apart-before k q (one_run rows) a in
      by (agree-behind rows b d.1 g) (known_map (Some k.program) (one_run rows)) refl
    where
      by : AgreeBehind rows → (o : Option ProgramMap) → known_map (Some k.program) (one_run rows) ≡ o
          → Agrees (switched_at k (q ∷ one_run rows)) (history_at k (q ∷ one_run rows)) (history_at k (other_run rows)) (if is_some (known_map (Some k.program) (one_run rows)) then Here q ∷ behind_rows k rows else [])
      by past None is =
          subst (λ (o : Option ProgramMap). Agrees (switched_at k (q ∷ one_run rows)) (history_at k (q ∷ one_run rows)) (history_at k (other_run rows)) (if is_some o then Here q ∷ behind_rows k rows else [])) (sym is) tt
      by past (Some m) is =
          subst (λ (o : Option ProgramMap). Agrees (switched_at k (q ∷ one_run rows)) (history_at k (q ∷ one_run rows)) (history_at k (other_run rows)) (if is_some o then Here q ∷ behind_rows k rows else [])) (sym is)
          (with-three (λ (sw : List ℕ) (h i : History). Agrees sw h i (Here q ∷ behind_rows k rows)) {c = history_at k (other_run rows)}
          (same-switched k q (one_run rows) m is) (same-history k q (one_run rows) m is) refl past)
  agree-behind (There q ∷ rows) a d g = by (agree-behind rows a d.1 g) (known_map (Some k.program) (one_run rows)) refl
    where
      by : AgreeBehind rows → (o : Option ProgramMap) → known_map (Some k.program) (one_run rows) ≡ o
          → Agrees (switched_at k (one_run rows)) (history_at k (one_run rows)) (history_at k (q ∷ other_run rows)) (if is_some (known_map (Some k.program) (one_run rows)) then There q ∷ behind_rows k rows else [])
      by past None is =
          subst (λ (o : Option ProgramMap). Agrees (switched_at k (one_run rows)) (history_at k (one_run rows)) (history_at k (q ∷ other_run rows)) (if is_some o then There q ∷ behind_rows k rows else [])) (sym is) tt
      by past (Some m) is =
          subst (λ (o : Option ProgramMap). Agrees (switched_at k (one_run rows)) (history_at k (one_run rows)) (history_at k (q ∷ other_run rows)) (if is_some o then There q ∷ behind_rows k rows else [])) (sym is)
          (with-three (λ (sw : List ℕ) (h i : History). Agrees sw h i (There q ∷ behind_rows k rows)) {a = switched_at k (one_run rows)} {b = history_at k (one_run rows)}
          refl refl (same-history k q (other_run rows) m (known-other rows a d.1 m is)) past)

  pub off-behind : (rows : List Beside) → CuesAreApart k (one_run rows) → DifferOn k.cue_pid rows → OffAll (switched_at k (one_run rows)) (behind_rows k rows)
  off-behind rows a d = off-all k.cue_pid (switched_at k (one_run rows)) a.streams (behind_rows k rows) (differ-behind k k.cue_pid rows d)

  -- ---- what goes out for a packet of both

  same-four : {A B C D : Type 0} {E : Type 0} (f : A → B → C → D → E) {a a' : A} {b b' : B} {c c' : C} {d d' : D} → a ≡ a' → b ≡ b' → c ≡ c' → d ≡ d' → f a b c d ≡ f a' b' c' d'
  same-four f h i j l = rw (h, i, j, l) refl

  module _ (p : List ℕ) (rows : List Beside) (a : CuesAreApart k (one_run rows)) (d : DifferOn k.cue_pid rows) where
    abbrev sw : List ℕ
    sw = switched_at k (one_run rows)

    abbrev ads : Adverts
    ads = adverts_at k (one_run rows)

    -- said of the rows behind the head, and of the runs
    to-one : {E : Type 0} (f : List (List ℕ) → E) → f (one_run (behind_rows k rows)) ≡ f (behind_at k (one_run rows))
    to-one f = ap f (behind-one k rows)

    to-other : {E : Type 0} (f : List ℕ → Adverts → History → List (List ℕ) → E) → f sw ads (history_at k (other_run rows)) (other_run (behind_rows k rows))
        ≡ f (switched_at k (other_run rows)) (adverts_at k (other_run rows)) (history_at k (other_run rows)) (behind_at k (other_run rows))
    to-other f = same-four f (switched-same k rows a d) (adverts-same k rows a d) refl (behind-other k rows a d)

    front-by : NextAgrees p rows → front_of sw ads (history_at k (one_run rows)) k.packed p (behind_at k (one_run rows))
        ≡ front_of (switched_at k (other_run rows)) (adverts_at k (other_run rows)) (history_at k (other_run rows)) k.packed p (behind_at k (other_run rows))
    front-by n =
        sym (to-one (λ b. front_of sw ads (history_at k (one_run rows)) k.packed p b))
        ∙ front-same sw ads (history_at k (one_run rows)) (history_at k (other_run rows)) (never-meet (one_run rows)) (never-meet (other_run rows)) k.packed p (behind_rows k rows) (off-behind rows a d) n
        ∙ to-other (λ s ad h b. front_of s ad h k.packed p b)

    place-by : NextAgrees p rows → on_one sw p ≡ true → place_of sw ads (history_at k (one_run rows)) k.packed p (behind_at k (one_run rows))
        ≡ place_of (switched_at k (other_run rows)) (adverts_at k (other_run rows)) (history_at k (other_run rows)) k.packed p (behind_at k (other_run rows))
    place-by n s =
        sym (to-one (λ b. place_of sw ads (history_at k (one_run rows)) k.packed p b))
        ∙ place-same sw ads (history_at k (one_run rows)) (history_at k (other_run rows)) (never-meet (one_run rows)) (never-meet (other_run rows)) k.packed p (behind_rows k rows) (off-behind rows a d) n s
        ∙ to-other (λ s ad h b. place_of s ad h k.packed p b)

    pub rest-by : AgreeBehind rows → AgreeAtTheEnd k rows → end_of_run sw ads (history_at k (one_run rows)) k.packed (behind_at k (one_run rows))
        ≡ end_of_run (switched_at k (other_run rows)) (adverts_at k (other_run rows)) (history_at k (other_run rows)) k.packed (behind_at k (other_run rows))
    rest-by n last =
        sym (to-one (λ b. end_of_run sw ads (history_at k (one_run rows)) k.packed b))
        ∙ rest-same sw ads (history_at k (one_run rows)) (history_at k (other_run rows)) (never-meet (one_run rows)) (never-meet (other_run rows)) k.packed (behind_rows k rows) (off-behind rows a d) n
        (with-three (λ (h : Option ℤ) (es fs : List Standing). AgreeReached h es fs) {a' = high sw (one_run (behind_rows k rows))} refl
        (ap (history_at k (one_run rows)) (behind-one k rows) ∙ history-now k (one_run rows))
        (ap (history_at k (other_run rows)) (behind-other k rows a d) ∙ history-now k (other_run rows))
        (λ e c r. last e c))
        ∙ to-other (λ s ad h b. end_of_run s ad h k.packed b)

    -- the program is known, where a stream is switched or the head is over
    known-if : (o : Option ProgramMap) → known_map (Some k.program) (one_run rows) ≡ o → is_behind_head k (one_run rows) ≡ true → (m : ProgramMap) × (known_map (Some k.program) (one_run rows) ≡ Some m)
    known-if None is b = absurd (true≢false (sym b ∙ ap (λ o. is_some (option_map program_in o)) is))
    known-if (Some m) is b = (m, is)

    known-switched : (o : Option ProgramMap) → known_map (Some k.program) (one_run rows) ≡ o → on_one sw p ≡ true → (m : ProgramMap) × (known_map (Some k.program) (one_run rows) ≡ Some m)
    known-switched None is b = absurd (true≢false (sym b ∙ ap (λ (s : List ℕ). on_one s p) (none-switched k (one_run rows) is)))
    known-switched (Some m) is b = (m, is)

    module _ (now : on_one sw p ≡ true → AgreeReached (high_at k (p ∷ one_run rows)) (events_at k (p ∷ one_run rows)) (events_at k (p ∷ other_run rows))) (past : AgreeBehind rows) where
      front-at-same : front_at k p (one_run rows) ≡ front_at k p (other_run rows)
      front-at-same = if-same (is-behind-same k rows a d)
          (λ b. let m = known-if (known_map (Some k.program) (one_run rows)) refl b in front-by (next-agrees p rows a d m.0 m.1 now past)) refl

      place-at-same : place_at k p (one_run rows) ≡ place_at k p (other_run rows)
      place-at-same = ap (λ ps. if on k.cue_pid p then [] else ps)
          (if-same (ap (λ s. on_one s p) (switched-same k rows a d))
          (λ b. let m = known-switched (known_map (Some k.program) (one_run rows)) refl b in place-by (next-agrees p rows a d m.0 m.1 now past) b) refl)

      body-by : (o : Option Listed) (ts : List Table) (out : List (List ℕ)) → body (switching k) o p (one_run rows) ts out ≡ body (switching k) o p (other_run rows) ts out
      body-by None ts out = place-at-same
      body-by (Some l) ts out = ap (λ ps. if on l.pid p then packets_out l.pid out (map (section_out (switching k).change) ts) else ps) place-at-same

      pub block-same : (out other : List (List ℕ)) → out ≡ other → block (switching k) (Some k.program) p (one_run rows) out ≡ block (switching k) (Some k.program) p (other_run rows) other
      block-same out other is =
          ap (λ ps. ps ++ body (switching k) (listed (Some k.program) (one_run rows)) p (one_run rows) (tables (Some k.program) p (one_run rows)) out) front-at-same
          ∙ ap (λ ps. front_at k p (other_run rows) ++ ps)
          (body-by (listed (Some k.program) (one_run rows)) (tables (Some k.program) p (one_run rows)) out
          ∙ ap (λ o. body (switching k) o p (other_run rows) (tables (Some k.program) p (one_run rows)) out) (listed-same k rows a.pat d)
          ∙ ap (λ ts. body (switching k) (listed (Some k.program) (other_run rows)) p (other_run rows) ts out) (tables-same k p rows a d)
          ∙ ap (body (switching k) (listed (Some k.program) (other_run rows)) p (other_run rows) (tables (Some k.program) p (other_run rows))) is)

  -- ---- and for one of the cues

  either : (b : Bool) (ps : List (List ℕ)) → ps ≡ [] → (if b then ps else []) ≡ []
  either true ps h = h
  either false ps h = refl

  quiet-block : (q : List ℕ) (past out : List (List ℕ)) → on_one (switched_at k past) q ≡ false → ((l : Listed) → listed (Some k.program) past ≡ Some l → k.cue_pid ≡ l.pid → ⊥) → on k.cue_pid q ≡ true
      → block (switching k) (Some k.program) q past out ≡ []
  quiet-block q past out n apart y =
      ap (λ ps. ps ++ body (switching k) (listed (Some k.program) past) q past (tables (Some k.program) q past) out)
      (either (is_behind_head k past) (front_of (switched_at k past) (adverts_at k past) (history_at k past) k.packed q (behind_at k past))
      (ap (out_after k.packed (moves (switched_at k past) (adverts_at k past) (history_at k past) (behind_at k past)))
      (puts_at_unit_starts (switched_at k past) (adverts_at k past) (history_at k past) q (behind_at k past) (begins_off_all (switched_at k past) q (behind_at k past) n))))
      ∙ by (listed (Some k.program) past) refl
    where
      none-here : place_at k q past ≡ []
      none-here = ap (λ b. if b then [] else (if on_one (switched_at k past) q then place_of (switched_at k past) (adverts_at k past) (history_at k past) k.packed q (behind_at k past) else q ∷ [])) y

      by : (o : Option Listed) → listed (Some k.program) past ≡ o → body (switching k) o q past (tables (Some k.program) q past) out ≡ []
      by None is = none-here
      by (Some l) is =
          ap (λ b. if b then packets_out l.pid out (map (section_out (switching k).change) (tables (Some k.program) q past)) else place_at k q past) (off_other k.cue_pid l.pid q (apart l is) y)
          ∙ none-here

pub same_events_same_output : SameEventsSameOutput
same_events_same_output k [] a d g = refl
same_events_same_output k (Shared p ∷ rows) a d g =
    let b = apart-before k p (one_run rows) a in
    let before = same_events_same_output k rows b d g.1 in
    ap (λ out. onto out (block (switching k) (Some k.program) p (one_run rows) (switched_past k (one_run rows)))) before
    ∙ ap (onto (switched_past k (other_run rows))) (block-same k p rows b d g.0 (agree-behind k rows b d g.1) (switched_past k (one_run rows)) (switched_past k (other_run rows)) before)
same_events_same_output k (Here q ∷ rows) a d g =
    let b = apart-before k q (one_run rows) a in
    ap (onto (switched_past k (one_run rows))) (quiet-block k q (one_run rows) (switched_past k (one_run rows)) (not-switched k.cue_pid q d.0 (switched_at k (one_run rows)) b.streams) b.pmt d.0)
    ∙ same_events_same_output k rows b d.1 g
same_events_same_output k (There q ∷ rows) a d g =
    same_events_same_output k rows a d.1 g
    ∙ sym (ap (onto (switched_past k (other_run rows)))
    (quiet-block k q (other_run rows) (switched_past k (other_run rows))
    (not-switched k.cue_pid q d.0 (switched_at k (other_run rows)) (ap (is_among k.cue_pid) (sym (switched-same k rows a d.1)) ∙ a.streams))
    (λ l is. a.pmt l (listed-same k rows a.pat d.1 ∙ is)) d.0))
