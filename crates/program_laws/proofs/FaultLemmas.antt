-- What a run without fault says.
use Rattle.std.specs.Option.{option_or}
use Rattle.std.proofs.Common.{◌≡◌, ℕ, List, [], ◌∷◌, ◌++◌, Bool, true, false, ◌&&◌, ◌==◌, refl, sym, ap, ◌∙◌, length, Option, Some, None, Result, Ok, Err, if◌then◌else◌}
use Rattle.std.specs.List.{AllByRecursion}
use Rattle.std.specs.Prelude.{nat_lt, option_map}
use Rattle.std.proofs.lemmas.Bool.{eqb-true, and_parts, not-false}
use Rattle.ts_packet.proofs.Cases.{by_test}
use Rattle.ts_packet.specs.Fields.{on}
use Rattle.psi_section.specs.Sections.{given}
use Rattle.psi_tables.specs.declared.fault.TableFault.{TableFault}
use Rattle.psi_tables.specs.declared.network.NetworkFault.{NetworkFault}
use Rattle.psi_tables.specs.declared.network.NetworkFault.TheVariants.{TooManyStreams, BadPids, PmtTooLong, CuePidUsed, ProgramChanged}
use Rattle.psi_tables.specs.Sections.{is_current}
use Rattle.psi_tables.specs.Streams.{pid_in, switched_of}
use Rattle.psi_tables.specs.Association.{Association, Pair, pat, pid_of_program}
use Rattle.psi_tables.specs.ProgramMap.{ProgramMap, streams_of}
use Rattle.program_follower.specs.declared.purpose.Purpose.{Purpose}
use Rattle.program_follower.specs.declared.purpose.Listed.{Listed}
use Rattle.program_follower.specs.Program.{pairs_of, listed_by, lists, first_listed, listed, Table, tables, all_tables, first_map, known_map, Program, program_in, program_of, behind_head, pids_of}
use Rattle.program_follower.specs.Faults.{on_cue, if_bad, pmt_pid_fault, differs, pairs_fault, pat_fault, pats_fault, bad_pids, cue_used, same_streams, changed, too_long, map_fault, table_fault, tables_fault, maps_fault, cue_fault, as_network, network_fault, first_fault}
use Rattle.unit_stream.specs.Faults.{unit_fault}
use Rattle.program_laws.specs.Writing.{Along}
use Rattle.program_laws.specs.Cued.{PairsAgree, PatsAgree, MapAgrees, LaterTablesAgree, NoCuePackets}
use Rattle.program_follower.proofs.JudgingLemmas.{same_is}
use Rattle.program_follower.proofs.OptionLemmas.{none_both}
use Rattle.program_laws.proofs.StepLemmas.{tables_grow, kept}
use Rattle.program_follower.proofs.OptionLemmas.{option_or-assoc}
use Rattle.psi_section.proofs.GivenLemmas.{each-append}
use Rattle.program_laws.proofs.ReadingLemmas.{none_at_pat}
use Rattle.program_follower.proofs.StepLemmas.{listed_stays}

pub not_if_bad : (b : Bool) (f : NetworkFault) → if_bad b f ≡ None → b ≡ false
not_if_bad true f h = absurd (cc)
not_if_bad false f h = refl

pub Each-map : {A : Type 0} (P Q : A → Type 0) → ((x : A) → P x → Q x) → (xs : List A) → AllByRecursion P xs → AllByRecursion Q xs
Each-map P Q f [] h = tt
Each-map P Q f (x ∷ xs) h = (f x h.0, Each-map P Q f xs h.1)

pub Each-both : {A : Type 0} (P Q : A → Type 0) (xs : List A) → AllByRecursion P xs → AllByRecursion Q xs → AllByRecursion (λ x. P x × Q x) xs
Each-both P Q [] h k = tt
Each-both P Q (x ∷ xs) h k = ((h.0, k.0), Each-both P Q xs h.1 k.1)

pub Each-parts : {A : Type 0} (P : A → Type 0) (xs ys : List A) → AllByRecursion P (xs ++ ys) → AllByRecursion P xs × AllByRecursion P ys
Each-parts P [] ys h = (tt, h)
Each-parts P (x ∷ xs) ys h = let r = Each-parts P xs ys h.1 in ((h.0, r.0), r.1)

-- ---- one packet

pub record Clean (c : Purpose) (p : List ℕ) (past : List (List ℕ)) : Type 0 where
  pub pats : pats_fault c (listed c.program past) (given 0 p past) ≡ None
  pub maps : maps_fault c (listed c.program past) (known_map c.program past) (tables c.program p past) ≡ None

clean : (c : Purpose) (p : List ℕ) (past : List (List ℕ)) → network_fault c p past ≡ None → Clean c p past
clean c p past h =
    let pats = pats_fault c (listed c.program past) (given 0 p past) in
    let maps = maps_fault c (listed c.program past) (first_map (all_tables c.program past)) (tables c.program p past) in
    let last = as_network (unit_fault (pids_of (program_of c.program past)) p (behind_head c.program past)) in
    let a = none_both (cue_fault c p) (option_or pats (option_or maps last)) h in
    let b = none_both pats (option_or maps last) a.1 in
    let d = none_both maps last b.1 in
    record { pats = b.0; maps = d.0 }

pub clean_run : (c : Purpose) (p : List ℕ) (past : List (List ℕ)) → first_fault c (p ∷ past) ≡ None → (first_fault c past ≡ None) × Clean c p past
clean_run c p past h = let r = none_both (first_fault c past) (network_fault c p past) h in (r.0, clean c p past r.1)

-- ---- the PAT

is_known : (pid : ℕ) (o : Option ℕ) → if_bad (differs pid o) ProgramChanged ≡ None → o ≡ Some pid
is_known pid None h = absurd (cc)
is_known pid (Some n) h = by_test (pid == n)
    (λ y. ap (λ x. let o : Option ℕ = Some x in o) (sym (eqb-true pid n y)))
    (λ w. absurd (let e = simp w at h in cc))

pairs_agree : (c : Purpose) (l : Listed) (b : Bool) (pairs : List Pair) → (if b then pairs_fault c (Some l) pairs else None) ≡ None → PairsAgree l (if b then Some pairs else None)
pairs_agree c l true pairs h = is_known l.pid (pid_of_program l.program pairs) h
pairs_agree c l false pairs h = tt

pat_agrees : (c : Purpose) (l : Listed) (r : Result Association TableFault) → pat_fault c (Some l) r ≡ None → PairsAgree l (pairs_of r)
pat_agrees c l (Ok a) h = pairs_agree c l (is_current a.version) a.pairs h
pat_agrees c l (Err e) h = tt

pats_agree : (c : Purpose) (l : Listed) (ss : List (List ℕ)) → pats_fault c (Some l) ss ≡ None → AllByRecursion (λ s. PairsAgree l (pairs_of (pat s))) ss
pats_agree c l [] h = tt
pats_agree c l (s ∷ ss) h =
    let r = none_both (pat_fault c (Some l) (pat s)) (pats_fault c (Some l) ss) h in
    (pat_agrees c l (pat s) r.0, pats_agree c l ss r.1)

pats_along : (c : Purpose) (past : List (List ℕ)) → first_fault c past ≡ None → Along (PatsAgree c.program) past
pats_along c [] h = tt
pats_along c (p ∷ past) h =
    let r = clean_run c p past h in
    let ss = given 0 p past in
    (λ l e. pats_agree c l ss (ap (λ o. pats_fault c o ss) (sym e) ∙ r.1.pats), pats_along c past r.0)

-- the PID of the PMT is good
pid_by : (c : Purpose) (b : Bool) (pairs : List Pair) → (if b then pairs_fault c None pairs else None) ≡ None → pmt_pid_fault c (listed_by c.program (if b then Some pairs else None)) ≡ None
pid_by c true pairs h = h
pid_by c false pairs h = refl

pid_of_pat : (c : Purpose) (r : Result Association TableFault) → pat_fault c None r ≡ None → pmt_pid_fault c (listed_by c.program (pairs_of r)) ≡ None
pid_of_pat c (Ok a) h = pid_by c (is_current a.version) a.pairs h
pid_of_pat c (Err e) h = refl

pid_first : (c : Purpose) (ss : List (List ℕ)) → pats_fault c None ss ≡ None → pmt_pid_fault c (first_listed c.program ss) ≡ None
pid_first c [] h = refl
pid_first c (s ∷ ss) h =
    let r = none_both (pat_fault c None (pat s)) (pats_fault c (option_or None (lists c.program s)) ss) h in
    by_listed (lists c.program s) (pid_of_pat c (pat s) r.0) (λ e. pid_first c ss (ap (λ o. pats_fault c o ss) (sym e) ∙ r.1)) where
      by_listed : (o : Option Listed) → pmt_pid_fault c o ≡ None → (o ≡ None → pmt_pid_fault c (first_listed c.program ss) ≡ None) → pmt_pid_fault c (option_or o (first_listed c.program ss)) ≡ None
      by_listed None h k = k refl
      by_listed (Some l) h k = h

pub pid_good : (c : Purpose) (past : List (List ℕ)) → first_fault c past ≡ None → pmt_pid_fault c (listed c.program past) ≡ None
pid_good c [] h = refl
pid_good c (p ∷ past) h =
    let r = clean_run c p past h in
    let ss = given 0 p past in
    by_known (listed c.program past) (pid_good c past r.0) (λ e. pid_first c ss (ap (λ o. pats_fault c o ss) (sym e) ∙ r.1.pats)) where
      by_known : (o : Option Listed) → pmt_pid_fault c o ≡ None → (o ≡ None → pmt_pid_fault c (first_listed c.program (given 0 p past)) ≡ None) → pmt_pid_fault c (option_or o (first_listed c.program (given 0 p past))) ≡ None
      by_known None h k = k refl
      by_known (Some l) h k = h

-- ---- maps

pub record Sound (c : Purpose) (pid : ℕ) (m : ProgramMap) : Type 0 where
  pub few : nat_lt 8 (length (switched_of (streams_of m))) ≡ false
  pub pids : bad_pids pid (streams_of m) (pid_in m.pcr_field) ≡ false
  pub cue : cue_used c (streams_of m) (pid_in m.pcr_field) ≡ false
  pub room : c.writes_cues && too_long c.cue_pid m ≡ false

abbrev pub MapSound : Purpose → ℕ → Option ProgramMap → Type 0
MapSound c pid None = Unit {0}
MapSound c pid (Some m) = Sound c pid m

pub sound_map : (c : Purpose) (pid : ℕ) (first : Option ProgramMap) (m : ProgramMap) → map_fault c pid first m ≡ None → Sound c pid m × (changed first m ≡ false)
sound_map c pid first m h =
    let b1 = nat_lt 8 (length (switched_of (streams_of m))) in
    let b2 = bad_pids pid (streams_of m) (pid_in m.pcr_field) in
    let b3 = cue_used c (streams_of m) (pid_in m.pcr_field) in
    let b4 = changed first m in
    let b5 = c.writes_cues && too_long c.cue_pid m in
    let r1 = none_both (if_bad b1 TooManyStreams) (option_or (if_bad b2 BadPids) (option_or (if_bad b3 CuePidUsed) (option_or (if_bad b4 ProgramChanged) (if_bad b5 PmtTooLong)))) h in
    let r2 = none_both (if_bad b2 BadPids) (option_or (if_bad b3 CuePidUsed) (option_or (if_bad b4 ProgramChanged) (if_bad b5 PmtTooLong))) r1.1 in
    let r3 = none_both (if_bad b3 CuePidUsed) (option_or (if_bad b4 ProgramChanged) (if_bad b5 PmtTooLong)) r2.1 in
    let r4 = none_both (if_bad b4 ProgramChanged) (if_bad b5 PmtTooLong) r3.1 in
    (record { few = not_if_bad b1 TooManyStreams r1.0; pids = not_if_bad b2 BadPids r2.0; cue = not_if_bad b3 CuePidUsed r3.0; room = not_if_bad b5 PmtTooLong r4.1 }, not_if_bad b4 ProgramChanged r4.0)

sound_table : (c : Purpose) (pid : ℕ) (first o : Option ProgramMap) → table_fault c pid first o ≡ None → MapSound c pid o
sound_table c pid first None h = tt
sound_table c pid first (Some m) h = (sound_map c pid first m h).0

sound_tables : (c : Purpose) (pid : ℕ) (first : Option ProgramMap) (ts : List Table) → tables_fault c pid first ts ≡ None → AllByRecursion (λ (t : Table). MapSound c pid t.program_map) ts
sound_tables c pid first [] h = tt
sound_tables c pid first (t ∷ ts) h =
    let r = none_both (table_fault c pid first t.program_map) (tables_fault c pid (option_or first t.program_map) ts) h in
    (sound_table c pid first t.program_map r.0, sound_tables c pid (option_or first t.program_map) ts r.1)

unchanged : (first m : ProgramMap) → changed (Some first) m ≡ false → program_in first ≡ program_in m
unchanged first m h =
    let a = same_streams (switched_of (streams_of m)) (switched_of (streams_of first)) in
    let b = pid_in m.pcr_field == pid_in first.pcr_field in
    let r = and_parts a b (not-false (a && b) h) in
    let e = same_is (switched_of (streams_of m)) (switched_of (streams_of first)) r.0 in
    let f = eqb-true (pid_in m.pcr_field) (pid_in first.pcr_field) r.1 in
    sym (ap (λ ss. let x : Program = record { streams = ss; pcr_pid = pid_in m.pcr_field } in x) e ∙ ap (λ n. let x : Program = record { streams = switched_of (streams_of first); pcr_pid = n } in x) f)

map_agrees : (c : Purpose) (pid : ℕ) (first o rest : Option ProgramMap) → table_fault c pid first o ≡ None → MapAgrees (option_or (option_or first o) rest) o
map_agrees c pid first None rest h = tt
map_agrees c pid None (Some m) rest h = refl
map_agrees c pid (Some f) (Some m) rest h = ap (λ r. let x : Option Program = Some r in x) (unchanged f m (sound_map c pid (Some f) m h).1)

agree_moved : (a b o : Option ProgramMap) → a ≡ b → MapAgrees a o → MapAgrees b o
agree_moved a b None e h = tt
agree_moved a b (Some m) e h = ap (option_map program_in) (sym e) ∙ h

maps_agree : (c : Purpose) (pid : ℕ) (first : Option ProgramMap) (ts : List Table) → tables_fault c pid first ts ≡ None → AllByRecursion (λ (t : Table). MapAgrees (option_or first (first_map ts)) t.program_map) ts
maps_agree c pid first [] h = tt
maps_agree c pid first (t ∷ ts) h =
    let r = none_both (table_fault c pid first t.program_map) (tables_fault c pid (option_or first t.program_map) ts) h in
    let e : option_or (option_or first t.program_map) (first_map ts) ≡ option_or first (option_or t.program_map (first_map ts)) = option_or-assoc first t.program_map (first_map ts) in
    let known = option_or first (option_or t.program_map (first_map ts)) in
    let later = option_or (option_or first t.program_map) (first_map ts) in (
      agree_moved later known t.program_map e (map_agrees c pid first t.program_map (first_map ts) r.0),
      Each-map (λ (u : Table). MapAgrees later u.program_map) (λ (u : Table). MapAgrees known u.program_map) (λ u g. agree_moved later known u.program_map e g) ts (maps_agree c pid (option_or first t.program_map) ts r.1),
    )

still : (known rest o : Option ProgramMap) → MapAgrees known o → MapAgrees (option_or known rest) o
still known rest None h = tt
still known rest (Some m) h = kept program_in known rest (program_in m) h

new_agree : (c : Purpose) (o : Option Listed) (known : Option ProgramMap) (p : List ℕ) (past : List (List ℕ)) → listed c.program past ≡ o → maps_fault c o known (tables c.program p past) ≡ None
    → AllByRecursion (λ (t : Table). MapAgrees (option_or known (first_map (tables c.program p past))) t.program_map) (tables c.program p past)
new_agree c None known p past e h = let n : tables c.program p past ≡ [] = simp e refl in rw n tt
new_agree c (Some l) known p past e h = maps_agree c l.pid known (tables c.program p past) h

all_agree : (c : Purpose) (past : List (List ℕ)) → first_fault c past ≡ None → AllByRecursion (λ (t : Table). MapAgrees (known_map c.program past) t.program_map) (all_tables c.program past)
all_agree c [] h = tt
all_agree c (p ∷ past) h =
    let r = clean_run c p past h in
    let known = known_map c.program past in
    let ts = tables c.program p past in
    let rest = first_map ts in
    let both = each-append (λ (t : Table). MapAgrees (option_or known rest) t.program_map) (all_tables c.program past) ts
    (Each-map (λ (t : Table). MapAgrees known t.program_map) (λ (t : Table). MapAgrees (option_or known rest) t.program_map) (λ t g. still known rest t.program_map g) (all_tables c.program past) (all_agree c past r.0))
    (new_agree c (listed c.program past) known p past refl r.1.maps) in
    let e = tables_grow c.program p past in
    rw e both

pub later_tables_agree : LaterTablesAgree
later_tables_agree c past h = record { pats = pats_along c past h; maps = all_agree c past h }

-- all maps are sound
pub same_listed : (k l : Listed) → Some k ≡ Some l → k ≡ l
same_listed k l e = cc

new_sound : (c : Purpose) (l : Listed) (p : List ℕ) (past : List (List ℕ)) → listed c.program past ≡ Some l → maps_fault c (listed c.program past) (known_map c.program past) (tables c.program p past) ≡ None
    → AllByRecursion (λ (t : Table). MapSound c l.pid t.program_map) (tables c.program p past)
new_sound c l p past e h =
    let known = known_map c.program past in
    let ts = tables c.program p past in
    sound_tables c l.pid known ts (ap (λ o. maps_fault c o known ts) (sym e) ∙ h)

pub all_sound : (c : Purpose) (past : List (List ℕ)) (l : Listed) → first_fault c past ≡ None → listed c.program past ≡ Some l → AllByRecursion (λ (t : Table). MapSound c l.pid t.program_map) (all_tables c.program past)
all_sound c [] l h e = tt
all_sound c (p ∷ past) l h e =
    let r = clean_run c p past h in
    by_known (listed c.program past) refl r.1.maps (λ f. all_sound c past l r.0 f) where
      by_known : (o : Option Listed) → listed c.program past ≡ o → maps_fault c (listed c.program past) (known_map c.program past) (tables c.program p past) ≡ None
          → (listed c.program past ≡ Some l → AllByRecursion (λ (t : Table). MapSound c l.pid t.program_map) (all_tables c.program past)) → AllByRecursion (λ (t : Table). MapSound c l.pid t.program_map) (all_tables c.program (p ∷ past))
      by_known None g m ih = let n = none_at_pat c.program p past g in rw n tt
      by_known (Some k) g m ih =
          let same : k ≡ l = same_listed k l (sym (listed_stays c.program p past k g) ∙ e) in
          let here : listed c.program past ≡ Some l = g ∙ ap (λ x. let y : Option Listed = Some x in y) same in
          each-append (λ (t : Table). MapSound c l.pid t.program_map) (all_tables c.program past) (tables c.program p past) (ih here) (new_sound c l p past here m)

-- ---- the cue PID

pub no_cue_packets : NoCuePackets
no_cue_packets c cue [] is_cue writes h = tt
no_cue_packets c cue (p ∷ past) is_cue writes h =
    let r = none_both (first_fault c past) (network_fault c p past) h in
    let a = none_both (cue_fault c p) _ r.1 in
    let b = not_if_bad (c.writes_cues && on_cue c.cue_pid p) CuePidUsed a.0 in
    let e : on cue p ≡ false = ap (λ o. on_cue o p) (sym is_cue) ∙ ap (λ x. x && on_cue c.cue_pid p) (sym writes) ∙ b in
    (e, no_cue_packets c cue past is_cue writes r.0)

pub first_sound : (c : Purpose) (pid : ℕ) (ts : List Table) → AllByRecursion (λ (t : Table). MapSound c pid t.program_map) ts → MapSound c pid (first_map ts)
first_sound c pid [] h = tt
first_sound c pid (t ∷ ts) h = by_map t.program_map (first_map ts) h.0 (first_sound c pid ts h.1) where
  by_map : (o x : Option ProgramMap) → MapSound c pid o → MapSound c pid x → MapSound c pid (option_or o x)
  by_map None x g k = k
  by_map (Some m) x g k = g
