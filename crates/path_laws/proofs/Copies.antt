-- The sections that copies of one packet give.
use Rattle.std.proofs.Common.{◌≡◌, ℕ, zero, suc, ◌<◌, Bool, true, false, not, ◌&&◌, refl, sym, ap, ◌∙◌, List, [], ◌∷◌, ◌++◌, cond, arith}
use Rattle.std.specs.List.{AllByRecursion}
use Rattle.std.proofs.lemmas.List.{append-nil}
use Rattle.ts_packet.specs.Fields.{number, payload, unit_start, payload_on, alike, carries_as}
use Rattle.ts_packet.specs.Duplicates.{repeats}
use Rattle.ts_packet.proofs.FieldLemmas.{payload_on-on}
use Rattle.psi_section.specs.Sections.{given, sections_after}
use Rattle.psi_section.specs.Packetising.{first_packet}
use Rattle.psi_section.proofs.ReadBackLemmas.{first_on, read_back}
use Rattle.scte35_codec.specs.declared.cue_out.CueOut.{CueOut}
use Rattle.scte35_codec.specs.Spelling.{cue_bytes, Fits}
use Rattle.scte35_codec.proofs.GivenLemmas.{cue_given, cue_fits}
use Rattle.program_laws.specs.Cued.{On}
use Rattle.cue_laws.specs.Thinning.{times}
use Rattle.ts_packet.proofs.Cases.{test-same}
use Rattle.ts_packet.proofs.EqualLemmas.{same-payload, same-flag}
use Rattle.path_laws.specs.Thinning.{sections_given, sections_of}
use Rattle.path_laws.proofs.Streams.{times-turn}

-- ---- a packet is like itself

alike-self : (q : List ℕ) → alike q q ≡ true
unfolding alike carries_as
alike-self q = rw (test-same (number q), same-flag (unit_start q), same-payload (payload q)) refl

-- ---- how many sections copies on the spot give

fresh-some : (n : ℕ) → 0 < n → 0 < sections_given n
fresh-some zero some = some
fresh-some (suc zero) some = omega arith
fresh-some (suc (suc n)) some = omega arith

pub sections-none : (b : Bool) (k : ℕ) → 0 < sections_of b k → 0 < k
sections-none false zero some = some
sections-none true zero some = some
sections-none b (suc k) some = omega arith

pub sections-some : (b : Bool) (k : ℕ) → b ≡ false → 0 < k → 0 < sections_of b k
sections-some false k is some = fresh-some k some
sections-some true k is some = absurd (let no : true ≡ false = is in cc)

-- ---- the copies of one packet

module _ (cue : CueOut) (fits : Fits cue) (pid n : ℕ) (pb : pid < 8192) (nb : n < 16) where
  abbrev q : List ℕ
  q = first_packet pid n (cue_bytes cue)

  mine : payload_on pid q ≡ true
  mine = first_on pid n (cue_bytes cue) pb nb

  fresh-gives : (out : List (List ℕ)) → repeats pid q out ≡ false → given pid q out ≡ cue_bytes cue ∷ []
  fresh-gives out new =
      sym (append-nil (given pid q out)) ∙ ap (sections_after out pid) (sym ((cue_fits cue fits).packet pid n)) ∙ read_back (cue_bytes cue) (cue_given cue fits) pid n out pb nb new

  stale-gives : (out : List (List ℕ)) → repeats pid q out ≡ true → given pid q out ≡ []
  stale-gives out old = let m = mine in simp (m, old) refl

  -- what a packet repeats, behind this one
  behind : (p : List ℕ) (out : List (List ℕ)) → repeats pid p (q ∷ out) ≡ (alike q p && not (repeats pid q out))
  behind p out = let m = mine in ap (λ b. cond b (alike q p && not (repeats pid q out)) (repeats pid p out)) m

  none-behind-stale : (p : List ℕ) (out : List (List ℕ)) → repeats pid q out ≡ true → repeats pid p (q ∷ out) ≡ false
  none-behind-stale p out old = behind p out ∙ ap (λ b. alike q p && not b) old ∙ never (alike q p)
    where
      never : (b : Bool) → (b && false) ≡ false
      never true = refl
      never false = refl

  second-repeats : (out : List (List ℕ)) → repeats pid q out ≡ false → repeats pid q (q ∷ out) ≡ true
  second-repeats out new = behind q out ∙ ap (λ b. b && not (repeats pid q out)) (alike-self q) ∙ ap not new

  fresh-copies : (k : ℕ) (out rest : List (List ℕ)) → (0 < k → repeats pid q out ≡ false)
      → sections_after out pid (times k q rest) ≡ times (sections_given k) (cue_bytes cue) (sections_after (times k q out) pid rest)
  fresh-copies zero out rest new = refl
  fresh-copies (suc zero) out rest new = ap (λ l. l ++ sections_after (q ∷ out) pid rest) (fresh-gives out (new (omega arith)))
  fresh-copies (suc (suc k)) out rest new =
      let one = new (omega arith) in
      ap (λ l. l ++ (given pid q (q ∷ out) ++ sections_after (q ∷ q ∷ out) pid (times k q rest))) (fresh-gives out one)
      ∙ ap (λ l. cue_bytes cue ∷ (l ++ sections_after (q ∷ q ∷ out) pid (times k q rest))) (stale-gives (q ∷ out) (second-repeats out one))
      ∙ ap (λ l. cue_bytes cue ∷ l) (fresh-copies k (q ∷ q ∷ out) rest (λ some. none-behind-stale q (q ∷ out) (second-repeats out one)))
      ∙ ap (λ l. cue_bytes cue ∷ times (sections_given k) (cue_bytes cue) (sections_after l pid rest)) (times-turn k q (q ∷ out) ∙ ap (λ l. q ∷ l) (times-turn k q out))

  -- the sections of so many copies
  pub copies-give : (b : Bool) (k : ℕ) (out rest : List (List ℕ)) → repeats pid q out ≡ b
      → sections_after out pid (times k q rest) ≡ times (sections_of b k) (cue_bytes cue) (sections_after (times k q out) pid rest)
  copies-give false k out rest new = fresh-copies k out rest (λ some. new)
  copies-give true zero out rest old = refl
  copies-give true (suc k) out rest old =
      ap (λ l. l ++ sections_after (q ∷ out) pid (times k q rest)) (stale-gives out old)
      ∙ fresh-copies k (q ∷ out) rest (λ some. none-behind-stale q out old)
      ∙ ap (λ l. times (sections_given k) (cue_bytes cue) (sections_after l pid rest)) (times-turn k q out)

  -- where a packet behind some copies is a duplicate, they gave a section
  pub repeated-gives : (b : Bool) (k : ℕ) (out : List (List ℕ)) (p : List ℕ) → repeats pid q out ≡ b → 0 < k → repeats pid p (times k q out) ≡ true → 0 < sections_of b k
  repeated-gives b zero out p is some old = absurd (omega arith)
  repeated-gives false (suc k) out p is some old = fresh-some (suc k) (omega arith)
  repeated-gives true (suc zero) out p is some old = absurd (let no = none-behind-stale p out is in let bad : true ≡ false = sym old ∙ no in cc)
  repeated-gives true (suc (suc k)) out p is some old = fresh-some (suc k) (omega arith)

  pub copies-on : (k : ℕ) (rest : List (List ℕ)) → AllByRecursion (On pid) rest → AllByRecursion (On pid) (times k q rest)
  copies-on zero rest all = all
  copies-on (suc k) rest all = (payload_on-on pid q mine, copies-on k rest all)
