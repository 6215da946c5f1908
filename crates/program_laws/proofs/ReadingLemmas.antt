-- Streams whose packets on a PID are the same.
use Rattle.std.specs.Option.{option_or}
use Rattle.std.proofs.Common.{◌≡◌, ℕ, List, [], ◌∷◌, ◌++◌, refl, sym, ap, ◌∙◌, append_assoc, Option, Some, None, map}
use Rattle.std.proofs.lemmas.List.{append-nil, map-append}
use Rattle.psi_section.specs.Sections.{given, sections_after}
use Rattle.program_follower.specs.declared.purpose.Listed.{Listed}
use Rattle.program_follower.specs.Program.{lists, first_listed, listed, since_pat, table_of, tables, all_tables}
use Rattle.ts_packet.specs.Runs.{onto}
use Rattle.program_follower.proofs.OptionLemmas.{option_or-assoc, option_or-none}
use Rattle.program_follower.proofs.StepLemmas.{listed_stays, since_stays, tables_at}

-- ---- a block of packets behind a stream: the PAT

pub first_listed-append : (wanted : Option ℕ) (ss ts : List (List ℕ)) → first_listed wanted (ss ++ ts) ≡ option_or (first_listed wanted ss) (first_listed wanted ts)
first_listed-append wanted [] ts = refl
first_listed-append wanted (s ∷ ss) ts =
    ap (option_or (lists wanted s)) (first_listed-append wanted ss ts) ∙ sym (option_or-assoc (lists wanted s) (first_listed wanted ss) (first_listed wanted ts))

pub listed_onto : (wanted : Option ℕ) (qs out : List (List ℕ)) → listed wanted (onto out qs) ≡ option_or (listed wanted out) (first_listed wanted (sections_after out 0 qs))
listed_onto wanted [] out = sym (option_or-none (listed wanted out))
listed_onto wanted (q ∷ qs) out =
    listed_onto wanted qs (q ∷ out)
    ∙ option_or-assoc (listed wanted out) (first_listed wanted (given 0 q out)) (first_listed wanted (sections_after (q ∷ out) 0 qs))
    ∙ ap (option_or (listed wanted out)) (sym (first_listed-append wanted (given 0 q out) (sections_after (q ∷ out) 0 qs)))

-- ---- behind the PAT

pub since_onto : (wanted : Option ℕ) (qs out : List (List ℕ)) (l : Listed) → listed wanted out ≡ Some l → since_pat wanted (onto out qs) ≡ onto (since_pat wanted out) qs
since_onto wanted [] out l h = refl
since_onto wanted (q ∷ qs) out l h = since_onto wanted qs (q ∷ out) l (listed_stays wanted q out l h) ∙ ap (λ past. onto past qs) (since_stays wanted q out l h)

pub tables_onto : (wanted : Option ℕ) (qs out : List (List ℕ)) (l : Listed) → listed wanted out ≡ Some l
    → all_tables wanted (onto out qs) ≡ all_tables wanted out ++ map (table_of l.program) (sections_after (since_pat wanted out) l.pid qs)
tables_onto wanted [] out l h = sym (append-nil (all_tables wanted out))
tables_onto wanted (q ∷ qs) out l h =
    let since = since_pat wanted out in
    let g = given l.pid q since in
    let more = sections_after (q ∷ since) l.pid qs in
    tables_onto wanted qs (q ∷ out) l (listed_stays wanted q out l h)
    ∙ ap (λ past. (all_tables wanted out ++ tables wanted q out) ++ map (table_of l.program) (sections_after past l.pid qs)) (since_stays wanted q out l h)
    ∙ ap (λ ts. (all_tables wanted out ++ ts) ++ map (table_of l.program) more) (tables_at wanted q out l h)
    ∙ append_assoc (all_tables wanted out) (map (table_of l.program) g) (map (table_of l.program) more)
    ∙ ap (λ ts. all_tables wanted out ++ ts) (sym (map-append (table_of l.program) g more))

-- ---- before the PAT

pub or_first : {A : Type 0} (x y : Option A) → option_or x y ≡ None → x ≡ None
or_first None y h = refl
or_first (Some x) y h = cc

pub none_before : (wanted : Option ℕ) (p : List ℕ) (past : List (List ℕ)) → listed wanted (p ∷ past) ≡ None → listed wanted past ≡ None
none_before wanted p past h = or_first (listed wanted past) (first_listed wanted (given 0 p past)) h

pub no_tables : (wanted : Option ℕ) (past : List (List ℕ)) → listed wanted past ≡ None → all_tables wanted past ≡ []
no_tables wanted [] h = refl
no_tables wanted (p ∷ past) h = let k = none_before wanted p past h in let r = no_tables wanted past k in simp (k, r)

-- also at the PAT
pub none_at_pat : (wanted : Option ℕ) (p : List ℕ) (past : List (List ℕ)) → listed wanted past ≡ None → all_tables wanted (p ∷ past) ≡ []
none_at_pat wanted p past h = let r = no_tables wanted past h in simp (h, r)

pub no_since : (wanted : Option ℕ) (p : List ℕ) (past : List (List ℕ)) → listed wanted past ≡ None → since_pat wanted (p ∷ past) ≡ []
no_since wanted p past h = simp h

pub no_since_yet : (wanted : Option ℕ) (past : List (List ℕ)) → listed wanted past ≡ None → since_pat wanted past ≡ []
no_since_yet wanted [] h = refl
no_since_yet wanted (p ∷ past) h = no_since wanted p past (none_before wanted p past h)
