-- Lines of a list of services, read and loaded one after another.
use Rattle.std.proofs.Common.{◌≡◌, ◌≢◌, ℕ, suc, ◌+◌, ◌-◌, ◌^◌, arith, List, [], ◌∷◌, ◌++◌, length, reverse, false, ◌&&◌, ◌==◌, refl, sym, ap, ◌∙◌, subst, append_assoc, ◌⊎◌, inl, inr, Option, None, Some, Result, Ok, Err, OnOk, IfOk, IfSome}
use Rattle.std.specs.Io.KnownBytes.{Consumes}
use Rattle.std.specs.Prelude.{min, sum_by}
use Rattle.std.specs.declared.fs.attrs.Metadata.{Metadata}
use Rattle.psi_section.specs.Assembling.{capped}
use Rattle.ad_lists.specs.declared.list.ListFault.{ListFault}
use Rattle.ad_lists.specs.declared.list.ListFault.TheVariants as adverts
use Rattle.std.proofs.lemmas.List.{append-nil, reverse-append, length-reverse}
use Rattle.std.proofs.lemmas.List.Sums.{fold-append}
use Rattle.psi_tables.specs.declared.config.Config.{Config}
use Rattle.ad_library.specs.declared.library.AdLibrary.{AdLibrary}
use Rattle.ad_lists.specs.Lists.{is_blank, is_line, text_of, number_behind, EndsLine, count_of, AreDescribed}
use Rattle.ad_lists.proofs.ListLemmas.{line_push}
use Rattle.ts_packet.specs.declared.tally.Tally.{Tally}
use Rattle.ts_packet.specs.Transfers.{LastMovedNone}
use Rattle.chain_services.specs.Refused.{IsRefused}
use Rattle.chain_services.specs.declared.fault.ServiceFault.{ServiceFault}
use Rattle.chain_services.specs.declared.fault.ServiceFault.TheVariants as service_faults
use Rattle.service_lists.specs.Lists.{IsServiceOf, IsLoaded, AreConfigs, AreServices, AreAllDescribed, IsRead, AreListed, BlamesLine, Blames, TellsLine, StopsAt, ListBlamed, IsOfServices, of_services}
use Rattle.service_lists.specs.declared.loading.Loading.{Loading}
use Rattle.service_lists.specs.declared.fault.ServicesFault.{ServicesFault}
use Rattle.service_lists.specs.declared.fault.ServicesFault.TheVariants.{BadLine, Config as BadConfig, File, Adverts, Services, Io, Turns, OutOfMemory}

-- ---- services of lines

-- what lines say, of which services were loaded
pub said_of : {A : Type 0} (cs : List Config) (ls : List (AdLibrary A)) (lines : List (List ℕ)) → AreServices cs ls lines → AreConfigs cs lines
said_of cs ls [] h = h.0
said_of cs ls (line ∷ lines) (inl h) = inl (h.0, said_of cs ls lines h.1)
said_of cs ls (line ∷ lines) (inr h) =
    let (c, ds, l, ks, path, e, d, is, loaded, more) = h.1 in inr (h.0, (c, ds, path, e, is, said_of ds ks lines more))

-- as many libraries as services
pub many_of : {A : Type 0} (cs : List Config) (ls : List (AdLibrary A)) (lines : List (List ℕ)) → AreServices cs ls lines → length ls ≡ length cs
many_of cs ls [] h = ap length h.1 ∙ sym (ap length h.0)
many_of cs ls (line ∷ lines) (inl h) = many_of cs ls lines h.1
many_of cs ls (line ∷ lines) (inr h) =
    let (c, ds, l, ks, path, e, d, is, loaded, more) = h.1 in ap length d ∙ ap suc (many_of ds ks lines more) ∙ sym (ap length e)

pub many_listed : {A : Type 0} (cs : List Config) (ls : List (AdLibrary A)) (text : List ℕ) → AreListed cs ls text → length ls ≡ length cs
many_listed cs ls text h = sym (length-reverse ls) ∙ many_of (reverse cs) (reverse ls) (h.last ∷ h.before) h.services ∙ length-reverse cs

-- a line more, with its service and its library
pub one_more : {A : Type 0} (cs ds : List Config) (ls ks : List (AdLibrary A)) (c : Config) (l : AdLibrary A) (path line : List ℕ) (lines : List (List ℕ))
    → is_blank line ≡ false → IsServiceOf c path line → IsLoaded l → ds ≡ cs ++ c ∷ [] → ks ≡ ls ++ l ∷ []
    → AreServices (reverse cs) (reverse ls) lines → AreServices (reverse ds) (reverse ks) (line ∷ lines)
one_more cs ds ls ks c l path line lines blank is loaded e d h =
    inr (blank, (c, reverse cs, l, reverse ls, path, ap reverse e ∙ reverse-append cs (c ∷ []), ap reverse d ∙ reverse-append ls (l ∷ []), is, loaded, h))

-- so of what is described
pub one_more_described : {A : Type 0} (files more streams : List Metadata) (ls ks : List (AdLibrary A)) (l : AdLibrary A) → length more ≡ length files + (1 + length streams)
    → AreDescribed streams l → ks ≡ ls ++ l ∷ [] → AreAllDescribed files ls → AreAllDescribed more ks
one_more_described files more streams ls ks l many d e h =
    many ∙ (λ i. h i + (1 + d i)) ∙ sym (fold-append (λ a x. a + (1 + count_of x)) 0 ls (l ∷ [])) ∙ ap (sum_by (λ x. 1 + count_of x)) (sym e)

-- ---- the text

same_services : {A : Type 0} (cs ds : List Config) (ls ks : List (AdLibrary A)) (lines : List (List ℕ)) → ds ≡ cs → ks ≡ ls
    → AreServices (reverse cs) (reverse ls) lines → AreServices (reverse ds) (reverse ks) lines
same_services cs ds ls ks lines e d h =
    subst (λ (xs : List Config). AreServices (reverse xs) (reverse ks) lines) (sym e) (subst (λ (xs : List (AdLibrary _)). AreServices (reverse cs) (reverse xs) lines) (sym d) h)

-- a byte more of a line
pub pushed : {A : Type 0} (old new : Loading A) (b : ℕ) (text : List ℕ) → (b == 10) ≡ false → new.configs.items ≡ old.configs.items → new.libraries.items ≡ old.libraries.items
    → new.files.items ≡ old.files.items → new.line.items ≡ old.line.items ++ b ∷ [] → new.number ≡ old.number → IsRead old text → IsRead new (text ++ b ∷ [])
pushed old new b text other configs libraries files items number h = record {
  before = h.before;
  number_is = number ∙ h.number_is;
  text_is = ap (λ t. t ++ b ∷ []) h.text_is ∙ append_assoc (text_of h.before) old.line.items (b ∷ []) ∙ ap (λ x. text_of h.before ++ x) (sym items);
  line = ap is_line items ∙ line_push old.line.items b h.line other;
  lines = h.lines;
  services = same_services old.configs.items new.configs.items old.libraries.items new.libraries.items h.before configs libraries h.services;
  described = ap length files ∙ h.described ∙ ap (sum_by (λ l. 1 + count_of l)) (sym libraries);
}

one_more_line : (n : ℕ) → min (capped (1 + n) + 1) (2 ^ 64 - 1) ≡ capped (1 + suc n)
one_more_line n = omega arith

-- the end of a line
pub ended : {A : Type 0} (old new : Loading A) (b : ℕ) (text : List ℕ) → b ≡ 10 → new.line.items ≡ [] → new.number ≡ min (old.number + 1) (2 ^ 64 - 1)
    → (h : IsRead old text) → AreServices (reverse new.configs.items) (reverse new.libraries.items) (old.line.items ∷ h.before) → AreAllDescribed new.files.items new.libraries.items
    → IsRead new (text ++ b ∷ [])
ended old new b text end items number h services described = record {
  before = old.line.items ∷ h.before;
  number_is = number ∙ ap (λ n. min (n + 1) (2 ^ 64 - 1)) h.number_is ∙ one_more_line (length h.before);
  text_is = (λ i. h.text_is i ++ end i ∷ []) ∙ append_assoc (text_of h.before) old.line.items (10 ∷ []) ∙ sym (append-nil (text_of (old.line.items ∷ h.before)))
      ∙ ap (λ x. text_of (old.line.items ∷ h.before) ++ x) (sym items);
  line = ap is_line items;
  lines = λ i. h.line i && h.lines i;
  services = services;
  described = described;
}

-- the end of the list, behind which the end of the last line may be missing
pub listed : {A : Type 0} (old new : Loading A) (text : List ℕ) → (h : IsRead old text)
    → AreServices (reverse new.configs.items) (reverse new.libraries.items) (old.line.items ∷ h.before) → AreListed new.configs.items new.libraries.items text
listed old new text h services = record {
  before = h.before;
  last = old.line.items;
  text_is = h.text_is;
  line = h.line;
  lines = h.lines;
  services = services;
}

-- nothing was read
pub nothing_read : {A : Type 0} (l : Loading A) → l.configs.items ≡ [] → l.libraries.items ≡ [] → l.files.items ≡ [] → l.line.items ≡ []
    → l.number ≡ 1 → IsRead l []
nothing_read l configs libraries files items number = record {
  before = [];
  number_is = number;
  text_is = sym items;
  line = ap is_line items;
  lines = refl;
  services = (ap reverse configs, ap reverse libraries);
  described = ap length files ∙ ap (sum_by (λ l. 1 + count_of l)) (sym libraries);
}

-- ---- where a list stops

whole : (f : ServicesFault) (before : List (List ℕ)) (line rest : List ℕ) → EndsLine rest → BlamesLine f line → Blames f before line rest
whole BadLine before line rest e b = (e, b)
whole (BadConfig bad) before line rest e b = (e, b)
whole File before line rest e b = (e, b)
whole (Adverts fault) before line rest e b = (e, b)
whole (Services fault) before line rest e b = absurd b
whole Io before line rest e b = absurd b
whole Turns before line rest e b = absurd b
whole OutOfMemory before line rest e b = tt

-- a line that is to blame is told
of_its_line : (f : ServicesFault) (n : Option ℕ) (line : List ℕ) (before : List (List ℕ)) → BlamesLine f line → n ≡ Some (number_behind before) → TellsLine f n before
of_its_line BadLine n line before b e = e
of_its_line (BadConfig bad) n line before b e = e
of_its_line File n line before b e = e
of_its_line (Adverts fault) n line before b e = e
of_its_line (Services fault) n line before b e = absurd b
of_its_line Io n line before b e = absurd b
of_its_line Turns n line before b e = absurd b
of_its_line OutOfMemory n line before b e = inr e

-- behind what was read
pub stops : {A : Type 0} (l : Loading A) (f : ServicesFault) (n : Option ℕ) (text rest : List ℕ) → (h : IsRead l text) → Blames f h.before l.line.items rest
    → TellsLine f n h.before → StopsAt f n (text ++ rest)
stops l f n text rest h blamed told = record {
  before = h.before;
  part = l.line.items;
  rest = rest;
  text_is = ap (λ t. t ++ rest) h.text_is ∙ append_assoc (text_of h.before) l.line.items rest;
  line = h.line;
  lines = h.lines;
  good = (reverse l.configs.items, said_of (reverse l.configs.items) (reverse l.libraries.items) h.before h.services);
  blamed = blamed;
  told = told;
}

-- at a line's end
pub stops_line : {A : Type 0} (l : Loading A) (f : ServicesFault) (n : Option ℕ) (text more : List ℕ) (b : ℕ) → b ≡ 10 → n ≡ Some l.number → (h : IsRead l text)
    → BlamesLine f l.line.items → StopsAt f n (text ++ b ∷ more)
stops_line l f n text more b end number h blamed =
    stops l f n text (b ∷ more) h (whole f h.before l.line.items (b ∷ more) end blamed) (of_its_line f n l.line.items h.before blamed (number ∙ ap Some h.number_is))

-- at the end of the list
pub stops_end : {A : Type 0} (l : Loading A) (f : ServicesFault) (n : Option ℕ) (text : List ℕ) → n ≡ Some l.number → (h : IsRead l text) → BlamesLine f l.line.items
    → StopsAt f n text
stops_end l f n text number h blamed =
    subst (StopsAt f n) (append-nil text)
    (stops l f n text [] h (whole f h.before l.line.items [] tt blamed) (of_its_line f n l.line.items h.before blamed (number ∙ ap Some h.number_is)))

tail_of : {A : Type 0} (cs : List Config) (ls : List (AdLibrary A)) (line : List ℕ) (lines : List (List ℕ)) → AreServices cs ls (line ∷ lines)
    → (configs : List Config) × AreConfigs configs lines
tail_of cs ls line lines (inl h) = (cs, said_of cs ls lines h.1)
tail_of cs ls line lines (inr h) = let (c, ds, l, ks, path, e, d, is, loaded, more) = h.1 in (ds, said_of ds ks lines more)

-- behind the last line
pub stops_behind : {A : Type 0} (f : ServicesFault) (n : Option ℕ) (cs : List Config) (ls : List (AdLibrary A)) (text : List ℕ) → (h : AreListed cs ls text)
    → Blames f h.before h.last [] → TellsLine f n h.before → StopsAt f n text
stops_behind f n cs ls text h blamed told = record {
  before = h.before;
  part = h.last;
  rest = [];
  text_is = h.text_is ∙ ap (λ (l : List ℕ). text_of h.before ++ l) (sym (append-nil h.last));
  line = h.line;
  lines = h.lines;
  good = tail_of (reverse cs) (reverse ls) h.last h.before h.services;
  blamed = blamed;
  told = told;
}

-- where the services of all lines are refused
pub refused_stops : {A : Type 0} (fault : ServiceFault) (n : Option ℕ) (cs : List Config) (ls : List (AdLibrary A)) (text : List ℕ) → n ≡ None → AreListed cs ls text
    → IsRefused cs fault → StopsAt (of_services fault) n text
refused_stops service_faults.NoService n cs ls text none h r =
    stops_behind (Services service_faults.NoService) n cs ls text h (refl, (cs, said_of (reverse cs) (reverse ls) (h.last ∷ h.before) h.services, r, λ e. cc)) none
refused_stops service_faults.Many n cs ls text none h r =
    stops_behind (Services service_faults.Many) n cs ls text h (refl, (cs, said_of (reverse cs) (reverse ls) (h.last ∷ h.before) h.services, r, λ e. cc)) none
refused_stops service_faults.SharedIndex n cs ls text none h r =
    stops_behind (Services service_faults.SharedIndex) n cs ls text h (refl, (cs, said_of (reverse cs) (reverse ls) (h.last ∷ h.before) h.services, r, λ e. cc)) none
refused_stops service_faults.SharedProgram n cs ls text none h r =
    stops_behind (Services service_faults.SharedProgram) n cs ls text h (refl, (cs, said_of (reverse cs) (reverse ls) (h.last ∷ h.before) h.services, r, λ e. cc)) none
refused_stops service_faults.SharedCue n cs ls text none h r =
    stops_behind (Services service_faults.SharedCue) n cs ls text h (refl, (cs, said_of (reverse cs) (reverse ls) (h.last ∷ h.before) h.services, r, λ e. cc)) none
refused_stops service_faults.OutOfMemory n cs ls text none h r = stops_behind OutOfMemory n cs ls text h tt (inl none)

pub refused_so : (fault : ServiceFault) → IsOfServices (of_services fault)
refused_so service_faults.NoService = tt
refused_so service_faults.Many = tt
refused_so service_faults.SharedIndex = tt
refused_so service_faults.SharedProgram = tt
refused_so service_faults.SharedCue = tt
refused_so service_faults.OutOfMemory = tt

-- it is told behind the end of the list
pub refused_blames : (f : ServicesFault) (old new : Tally) → LastMovedNone old new → IsOfServices f → ListBlamed f old new
refused_blames BadLine old new h b = absurd b
refused_blames (BadConfig bad) old new h b = absurd b
refused_blames File old new h b = absurd b
refused_blames (Adverts fault) old new h b = absurd b
refused_blames (Services fault) old new h b = h
refused_blames Io old new h b = absurd b
refused_blames Turns old new h b = absurd b
refused_blames OutOfMemory old new h b = inr h

-- ---- what a line is refused for

pub of_file : (c : Config) (path line : List ℕ) → is_blank line ≡ false → IsServiceOf c path line → BlamesLine File line
of_file c path line blank is = (blank, (c, path, is))

pub of_memory : (c : Config) (path line : List ℕ) → is_blank line ≡ false → IsServiceOf c path line → BlamesLine OutOfMemory line
of_memory c path line blank is = (blank, (c, path, is))

pub of_adverts : (fault : ServicesFault) (c : Config) (path line : List ℕ) → is_blank line ≡ false → IsServiceOf c path line
    → (fault ≡ OutOfMemory) ⊎ ((f : ListFault) × (fault ≡ Adverts f) × (f ≢ adverts.OutOfMemory)) → BlamesLine fault line
of_adverts fault c path line blank is (inl e) = subst (λ f. BlamesLine f line) (sym e) (blank, (c, path, is))
of_adverts fault c path line blank is (inr h) = subst (λ f. BlamesLine f line) (sym h.1) (blank, (c, path, is), h.2)

pub both_more : {T E : Type 0} {P Q R : Type 0} (r : Result T E) → (P → Q → R) → OnOk r P → OnOk r Q → OnOk r R
both_more (Ok x) f p q = f p q
both_more (Err x) f p q = tt

-- what stands behind what was read is open
pub said_on : (P : List ℕ → Type 0) (a b : Option (List ℕ)) (bs : List ℕ) → Consumes a b bs → ((more : List ℕ) → P (bs ++ more)) → IfSome a P
said_on P None b bs p h = tt
said_on P (Some x) None bs p h = absurd p
said_on P (Some x) (Some y) bs p h = subst P (sym p) (h y)

pub if_ok_more : {T E : Type 0} {P Q : T → Type 0} (r : Result T E) → ((t : T) → P t → Q t) → IfOk r P → IfOk r Q
if_ok_more (Ok t) f p = f t p
if_ok_more (Err e) f p = tt
