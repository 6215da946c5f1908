-- Two runs have the same tables, and the same packets behind their heads but for cues.
use Rattle.std.proofs.Common.{◌≡◌, ℕ, ◌==◌, List, [], ◌∷◌, ◌++◌, Bool, true, false, ◌||◌, refl, sym, ap, ◌∙◌, subst, Option, None, Some, if◌then◌else◌}
use Rattle.std.specs.Prelude.{is_some, option_map}
use Rattle.std.specs.Option.{option_or}
use Rattle.std.proofs.lemmas.Bool.{true≢false, or_parts}
use Rattle.ts_packet.specs.Fields.{on, on_one, is_among}
use Rattle.psi_section.specs.Sections.{given}
use Rattle.psi_section.proofs.RunLemmas.{Alike, alike_on, alike_off, alike_none, alike_back, given_on, given_off}
use Rattle.psi_tables.specs.ProgramMap.{ProgramMap}
use Rattle.program_follower.specs.declared.purpose.Listed.{Listed}
use Rattle.program_follower.specs.Program.{listed, first_listed, since_pat, Table, tables_in, tables_on, tables, all_tables, first_map, known_map, program_in, pids_of}
use Rattle.program_follower.specs.Following.{streams_of_program}
use Rattle.program_follower.proofs.OptionLemmas.{option_or-none}
use Rattle.program_follower.proofs.StepLemmas.{listed_stays}
use Rattle.program_laws.proofs.WritingLemmas.{off_other}
use Rattle.program_laws.proofs.ReadingLemmas.{no_since_yet}
use Rattle.splice_plans.specs.Switching.{Setting, switched_at, is_behind_head}
use Rattle.splice_plans.specs.Known.{adverts_at, behind_at}
use Rattle.known_laws.proofs.HeadLemmas.{none-switched, none-behind, same-switched}
use Rattle.ts_packet.proofs.Cases.{test-same}
use Rattle.thinned_laws.specs.Beside.{Beside, Shared, Here, There, one_run, other_run, DifferOn, CuesAreApart}
use Rattle.thinned_laws.proofs.Flags.{OffAlone, OffAll, alike-runs}

-- ---- the PID of the cues

pub off-alone : (cue pid : ℕ) → (cue ≡ pid → ⊥) → (rows : List Beside) → DifferOn cue rows → OffAlone pid rows
off-alone cue pid ne [] d = tt
off-alone cue pid ne (Shared p ∷ rows) d = off-alone cue pid ne rows d
off-alone cue pid ne (Here q ∷ rows) d = (off_other cue pid q ne d.0, off-alone cue pid ne rows d.1)
off-alone cue pid ne (There q ∷ rows) d = (off_other cue pid q ne d.0, off-alone cue pid ne rows d.1)

pub not-switched : (cue : ℕ) (q : List ℕ) → on cue q ≡ true → (pids : List ℕ) → is_among cue pids ≡ false → on_one pids q ≡ false
not-switched cue q y [] n = refl
not-switched cue q y (pid ∷ pids) n =
    let r = or_parts (pid == cue) (is_among cue pids) n in
    none (on pid q) (on_one pids q)
    (off_other cue pid q (λ e. true≢false (sym (test-same cue) ∙ ap (λ m. m == cue) e ∙ r.0)) y)
    (not-switched cue q y pids r.1)
  where
    none : (a b : Bool) → a ≡ false → b ≡ false → (a || b) ≡ false
    none true b h k = h
    none false b h k = k

pub off-all : (cue : ℕ) (pids : List ℕ) → is_among cue pids ≡ false → (rows : List Beside) → DifferOn cue rows → OffAll pids rows
off-all cue pids n [] d = tt
off-all cue pids n (Shared p ∷ rows) d = off-all cue pids n rows d
off-all cue pids n (Here q ∷ rows) d = (not-switched cue q d.0 pids n, off-all cue pids n rows d.1)
off-all cue pids n (There q ∷ rows) d = (not-switched cue q d.0 pids n, off-all cue pids n rows d.1)

module _ (k : Setting) where
  abbrev wanted : Option ℕ
  wanted = Some k.program

  pub apart-before : (p : List ℕ) (past : List (List ℕ)) → CuesAreApart k (p ∷ past) → CuesAreApart k past
  apart-before p past a = record {
    pat = a.pat;
    pmt = λ l is. a.pmt l (listed_stays (Some k.program) p past l is);
    streams = by (known_map (Some k.program) past) refl;
  }
    where
      by : (o : Option ProgramMap) → known_map (Some k.program) past ≡ o → is_among k.cue_pid (switched_at k past) ≡ false
      by None is = ap (is_among k.cue_pid) (none-switched k past is)
      by (Some m) is = ap (is_among k.cue_pid) (sym (same-switched k p past m is)) ∙ a.streams

  -- ---- tables

  listed-quiet : (q : List ℕ) (past : List (List ℕ)) → (k.cue_pid ≡ 0 → ⊥) → on k.cue_pid q ≡ true → listed wanted (q ∷ past) ≡ listed wanted past
  listed-quiet q past ne y =
      ap (λ ss. option_or (listed (Some k.program) past) (first_listed (Some k.program) ss)) (given_off 0 q past (off_other k.cue_pid 0 q ne y))
      ∙ option_or-none (listed (Some k.program) past)

  pub listed-same : (rows : List Beside) → (k.cue_pid ≡ 0 → ⊥) → DifferOn k.cue_pid rows → listed wanted (one_run rows) ≡ listed wanted (other_run rows)
  listed-same [] ne d = refl
  listed-same (Shared p ∷ rows) ne d =
      ap (λ o. option_or o (first_listed (Some k.program) (given 0 p (one_run rows)))) (listed-same rows ne d)
      ∙ ap (λ ss. option_or (listed (Some k.program) (other_run rows)) (first_listed (Some k.program) ss)) (given_on 0 p (one_run rows) (other_run rows) (alike-runs 0 rows (off-alone k.cue_pid 0 ne rows d)))
  listed-same (Here q ∷ rows) ne d = listed-quiet q (one_run rows) ne d.0 ∙ listed-same rows ne d.1
  listed-same (There q ∷ rows) ne d = listed-same rows ne d.1 ∙ sym (listed-quiet q (other_run rows) ne d.0)

  since-alike : (rows : List Beside) → (k.cue_pid ≡ 0 → ⊥) → DifferOn k.cue_pid rows → (pid : ℕ) → (k.cue_pid ≡ pid → ⊥) → Alike pid (since_pat wanted (one_run rows)) (since_pat wanted (other_run rows))
  since-alike [] ne d pid apart = alike_none pid []
  since-alike (Shared p ∷ rows) ne d pid apart =
      subst (λ (o : Option Listed). Alike pid (since_pat (Some k.program) (p ∷ one_run rows)) (if is_some o then p ∷ since_pat (Some k.program) (other_run rows) else [])) (listed-same rows ne d)
      (more (is_some (listed (Some k.program) (one_run rows))) (since_pat (Some k.program) (one_run rows)) (since_pat (Some k.program) (other_run rows)) (since-alike rows ne d pid apart))
    where
      more : (b : Bool) (s t : List (List ℕ)) → Alike pid s t → Alike pid (if b then p ∷ s else []) (if b then p ∷ t else [])
      more true s t a = alike_on pid p s t a
      more false s t a = alike_none pid []
  since-alike (Here q ∷ rows) ne d pid apart =
      by (since-alike rows ne d.1 pid apart) (listed (Some k.program) (one_run rows)) refl
    where
      by : Alike pid (since_pat (Some k.program) (one_run rows)) (since_pat (Some k.program) (other_run rows)) → (o : Option Listed) → listed (Some k.program) (one_run rows) ≡ o
          → Alike pid (since_pat (Some k.program) (q ∷ one_run rows)) (since_pat (Some k.program) (other_run rows))
      by rest None is =
          subst (λ (o : Option Listed). Alike pid (if is_some o then q ∷ since_pat (Some k.program) (one_run rows) else []) (since_pat (Some k.program) (other_run rows))) (sym is)
          (subst (λ (s : List (List ℕ)). Alike pid [] s) (sym (no_since_yet (Some k.program) (other_run rows) (sym (listed-same rows ne d.1) ∙ is))) (alike_none pid []))
      by rest (Some l) is =
          subst (λ (o : Option Listed). Alike pid (if is_some o then q ∷ since_pat (Some k.program) (one_run rows) else []) (since_pat (Some k.program) (other_run rows))) (sym is)
          (alike_off pid q (since_pat (Some k.program) (one_run rows)) (since_pat (Some k.program) (other_run rows)) (off_other k.cue_pid pid q apart d.0) rest)
  since-alike (There q ∷ rows) ne d pid apart =
      by (since-alike rows ne d.1 pid apart) (listed (Some k.program) (other_run rows)) refl
    where
      by : Alike pid (since_pat (Some k.program) (one_run rows)) (since_pat (Some k.program) (other_run rows)) → (o : Option Listed) → listed (Some k.program) (other_run rows) ≡ o
          → Alike pid (since_pat (Some k.program) (one_run rows)) (since_pat (Some k.program) (q ∷ other_run rows))
      by rest None is =
          subst (λ (o : Option Listed). Alike pid (since_pat (Some k.program) (one_run rows)) (if is_some o then q ∷ since_pat (Some k.program) (other_run rows) else [])) (sym is)
          (subst (λ (s : List (List ℕ)). Alike pid s []) (sym (no_since_yet (Some k.program) (one_run rows) (listed-same rows ne d.1 ∙ is))) (alike_none pid []))
      by rest (Some l) is =
          subst (λ (o : Option Listed). Alike pid (since_pat (Some k.program) (one_run rows)) (if is_some o then q ∷ since_pat (Some k.program) (other_run rows) else [])) (sym is)
          (alike_back pid (q ∷ since_pat (Some k.program) (other_run rows)) (since_pat (Some k.program) (one_run rows))
          (alike_off pid q (since_pat (Some k.program) (other_run rows)) (since_pat (Some k.program) (one_run rows)) (off_other k.cue_pid pid q apart d.0)
          (alike_back pid (since_pat (Some k.program) (one_run rows)) (since_pat (Some k.program) (other_run rows)) rest)))

  pub tables-same : (p : List ℕ) (rows : List Beside) → CuesAreApart k (one_run rows) → DifferOn k.cue_pid rows → tables wanted p (one_run rows) ≡ tables wanted p (other_run rows)
  tables-same p rows a d =
      by (listed (Some k.program) (one_run rows)) refl
      ∙ ap (λ o. tables_on o p (since_pat (Some k.program) (other_run rows))) (listed-same rows a.pat d)
    where
      by : (o : Option Listed) → listed (Some k.program) (one_run rows) ≡ o → tables_on o p (since_pat (Some k.program) (one_run rows)) ≡ tables_on o p (since_pat (Some k.program) (other_run rows))
      by None is = refl
      by (Some l) is = ap (tables_in l) (given_on l.pid p (since_pat (Some k.program) (one_run rows)) (since_pat (Some k.program) (other_run rows)) (since-alike rows a.pat d l.pid (a.pmt l is)))

  pub tables-none : (q : List ℕ) (past : List (List ℕ)) → ((l : Listed) → listed wanted past ≡ Some l → k.cue_pid ≡ l.pid → ⊥) → on k.cue_pid q ≡ true → tables wanted q past ≡ []
  tables-none q past apart y = by (listed (Some k.program) past) refl
    where
      by : (o : Option Listed) → listed (Some k.program) past ≡ o → tables_on o q (since_pat (Some k.program) past) ≡ []
      by None is = refl
      by (Some l) is = ap (tables_in l) (given_off l.pid q (since_pat (Some k.program) past) (off_other k.cue_pid l.pid q (apart l is) y))

  all-tables-same : (rows : List Beside) → CuesAreApart k (one_run rows) → DifferOn k.cue_pid rows → all_tables wanted (one_run rows) ≡ all_tables wanted (other_run rows)
  all-tables-same [] a d = refl
  all-tables-same (Shared p ∷ rows) a d =
      let b = apart-before p (one_run rows) a in
      ap (λ ts. ts ++ tables (Some k.program) p (one_run rows)) (all-tables-same rows b d)
      ∙ ap (λ ts. all_tables (Some k.program) (other_run rows) ++ ts) (tables-same p rows b d)
  all-tables-same (Here q ∷ rows) a d =
      let b = apart-before q (one_run rows) a in
      ap (λ ts. all_tables (Some k.program) (one_run rows) ++ ts) (tables-none q (one_run rows) b.pmt d.0)
      ∙ nil-behind (all_tables (Some k.program) (one_run rows))
      ∙ all-tables-same rows b d.1
    where
      nil-behind : (ts : List Table) → ts ++ [] ≡ ts
      nil-behind [] = refl
      nil-behind (t ∷ ts) = ap (λ l. t ∷ l) (nil-behind ts)
  all-tables-same (There q ∷ rows) a d =
      all-tables-same rows a d.1
      ∙ sym (nil-behind (all_tables (Some k.program) (other_run rows)))
      ∙ ap (λ ts. all_tables (Some k.program) (other_run rows) ++ ts) (sym (tables-none q (other_run rows) (λ l is. a.pmt l (listed-same rows a.pat d.1 ∙ is)) d.0))
    where
      nil-behind : (ts : List Table) → ts ++ [] ≡ ts
      nil-behind [] = refl
      nil-behind (t ∷ ts) = ap (λ l. t ∷ l) (nil-behind ts)

  pub map-same : (rows : List Beside) → CuesAreApart k (one_run rows) → DifferOn k.cue_pid rows → known_map wanted (one_run rows) ≡ known_map wanted (other_run rows)
  map-same rows a d = ap first_map (all-tables-same rows a d)

  pub switched-same : (rows : List Beside) → CuesAreApart k (one_run rows) → DifferOn k.cue_pid rows → switched_at k (one_run rows) ≡ switched_at k (other_run rows)
  switched-same rows a d = ap (λ o. pids_of (option_map program_in o)) (map-same rows a d)

  pub adverts-same : (rows : List Beside) → CuesAreApart k (one_run rows) → DifferOn k.cue_pid rows → adverts_at k (one_run rows) ≡ adverts_at k (other_run rows)
  adverts-same rows a d = ap (λ o. k.adverts (streams_of_program (option_map program_in o))) (map-same rows a d)

  pub is-behind-same : (rows : List Beside) → CuesAreApart k (one_run rows) → DifferOn k.cue_pid rows → is_behind_head k (one_run rows) ≡ is_behind_head k (other_run rows)
  is-behind-same rows a d = ap (λ o. is_some (option_map program_in o)) (map-same rows a d)

-- ---- behind the head

-- the rows behind the head of the one run, where that of the other is
abbrev pub behind_rows : Setting → List Beside → List Beside
behind_rows k [] = []
behind_rows k (Shared p ∷ rows) = if is_some (known_map (Some k.program) (one_run rows)) then Shared p ∷ behind_rows k rows else []
behind_rows k (Here q ∷ rows) = if is_some (known_map (Some k.program) (one_run rows)) then Here q ∷ behind_rows k rows else []
behind_rows k (There q ∷ rows) = if is_some (known_map (Some k.program) (one_run rows)) then There q ∷ behind_rows k rows else []

pub differ-behind : (k : Setting) (cue : ℕ) (rows : List Beside) → DifferOn cue rows → DifferOn cue (behind_rows k rows)
differ-behind k cue [] d = tt
differ-behind k cue (Shared p ∷ rows) d = more (is_some (known_map (Some k.program) (one_run rows))) (differ-behind k cue rows d)
  where
    more : (b : Bool) → DifferOn cue (behind_rows k rows) → DifferOn cue (if b then Shared p ∷ behind_rows k rows else [])
    more true h = h
    more false h = tt
differ-behind k cue (Here q ∷ rows) d = more (is_some (known_map (Some k.program) (one_run rows))) (d.0, differ-behind k cue rows d.1)
  where
    more : (b : Bool) → DifferOn cue (Here q ∷ behind_rows k rows) → DifferOn cue (if b then Here q ∷ behind_rows k rows else [])
    more true h = h
    more false h = tt
differ-behind k cue (There q ∷ rows) d = more (is_some (known_map (Some k.program) (one_run rows))) (d.0, differ-behind k cue rows d.1)
  where
    more : (b : Bool) → DifferOn cue (There q ∷ behind_rows k rows) → DifferOn cue (if b then There q ∷ behind_rows k rows else [])
    more true h = h
    more false h = tt

if-one : (f : List Beside → List (List ℕ)) → f [] ≡ [] → (b : Bool) (rows : List Beside) (ps : List (List ℕ)) → f rows ≡ ps → f (if b then rows else []) ≡ (if b then ps else [])
if-one f none true rows ps h = h
if-one f none false rows ps h = none

pub behind-one : (k : Setting) (rows : List Beside) → one_run (behind_rows k rows) ≡ behind_at k (one_run rows)
behind-one k [] = refl
behind-one k (Shared p ∷ rows) = if-one one_run refl (is_some (known_map (Some k.program) (one_run rows))) (Shared p ∷ behind_rows k rows) (p ∷ behind_at k (one_run rows)) (ap (λ ps. p ∷ ps) (behind-one k rows))
behind-one k (Here q ∷ rows) = if-one one_run refl (is_some (known_map (Some k.program) (one_run rows))) (Here q ∷ behind_rows k rows) (q ∷ behind_at k (one_run rows)) (ap (λ ps. q ∷ ps) (behind-one k rows))
behind-one k (There q ∷ rows) = by (behind-one k rows) (known_map (Some k.program) (one_run rows)) refl
  where
    by : one_run (behind_rows k rows) ≡ behind_at k (one_run rows) → (o : Option ProgramMap) → known_map (Some k.program) (one_run rows) ≡ o → one_run (if is_some (known_map (Some k.program) (one_run rows)) then There q ∷ behind_rows k rows else []) ≡ behind_at k (one_run rows)
    by rest None is = ap (λ (o : Option ProgramMap). one_run (if is_some o then There q ∷ behind_rows k rows else [])) is ∙ sym (none-behind k (one_run rows) is)
    by rest (Some m) is = ap (λ (o : Option ProgramMap). one_run (if is_some o then There q ∷ behind_rows k rows else [])) is ∙ rest

pub behind-other : (k : Setting) (rows : List Beside) → CuesAreApart k (one_run rows) → DifferOn k.cue_pid rows → other_run (behind_rows k rows) ≡ behind_at k (other_run rows)
behind-other k [] a d = refl
behind-other k (Shared p ∷ rows) a d =
    let b = apart-before k p (one_run rows) a in
    if-one other_run refl (is_some (known_map (Some k.program) (one_run rows))) (Shared p ∷ behind_rows k rows) (p ∷ behind_at k (other_run rows)) (ap (λ ps. p ∷ ps) (behind-other k rows b d))
    ∙ ap (λ (o : Option ProgramMap). if is_some o then p ∷ behind_at k (other_run rows) else []) (map-same k rows b d)
behind-other k (There q ∷ rows) a d =
    if-one other_run refl (is_some (known_map (Some k.program) (one_run rows))) (There q ∷ behind_rows k rows) (q ∷ behind_at k (other_run rows)) (ap (λ ps. q ∷ ps) (behind-other k rows a d.1))
    ∙ ap (λ (o : Option ProgramMap). if is_some o then q ∷ behind_at k (other_run rows) else []) (map-same k rows a d.1)
behind-other k (Here q ∷ rows) a d = by (behind-other k rows (apart-before k q (one_run rows) a) d.1) (known_map (Some k.program) (one_run rows)) refl
  where
    by : other_run (behind_rows k rows) ≡ behind_at k (other_run rows) → (o : Option ProgramMap) → known_map (Some k.program) (one_run rows) ≡ o → other_run (if is_some (known_map (Some k.program) (one_run rows)) then Here q ∷ behind_rows k rows else []) ≡ behind_at k (other_run rows)
    by rest None is = ap (λ (o : Option ProgramMap). other_run (if is_some o then Here q ∷ behind_rows k rows else [])) is ∙ sym (none-behind k (other_run rows) (sym (map-same k rows (apart-before k q (one_run rows) a) d.1) ∙ is))
    by rest (Some m) is = ap (λ (o : Option ProgramMap). other_run (if is_some o then Here q ∷ behind_rows k rows else [])) is ∙ rest
