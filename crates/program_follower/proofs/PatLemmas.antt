-- The PATs that a packet finishes, one after another.
use Rattle.std.specs.Option.{option_or}
use Rattle.std.proofs.Common.{◌≡◌, ℕ, List, [], ◌∷◌, false, Option, Some, None, sym, ap, ◌∙◌}
use Rattle.ts_packet.specs.Fields.{on}
use Rattle.psi_section.specs.declared.assembler.Assembler.{Assembler}
use Rattle.psi_section.specs.Sections.{given}
use Rattle.psi_section.specs.Assembling.{StillGives, left}
use Rattle.psi_section.proofs.AssemblerLemmas.{gives_off}
use Rattle.psi_section.proofs.RunLemmas.{given_off}
use Rattle.psi_tables.specs.declared.network.NetworkFault.{NetworkFault}
use Rattle.psi_tables.specs.Association.{pat}
use Rattle.program_follower.specs.declared.purpose.Purpose.{Purpose}
use Rattle.program_follower.specs.declared.purpose.Listed.{Listed}
use Rattle.program_follower.specs.declared.pat_reader.PatReader.{PatReader}
use Rattle.program_follower.specs.Program.{lists, first_listed, listed}
use Rattle.program_follower.specs.Faults.{pat_fault, pats_fault}
use Rattle.program_follower.specs.Standing.{PatsRead}
use Rattle.program_follower.proofs.OptionLemmas.{option_or-assoc, option_or-none}

-- some are judged, and the rest is to come
pub record JudgingPats (c : Purpose) (before : Option Listed) (all : List (List ℕ)) (known : Option Listed) (rest : List (List ℕ)) : Type 0 where
  pub fault : pats_fault c before all ≡ pats_fault c known rest
  pub lists_so : option_or before (first_listed c.program all) ≡ option_or known (first_listed c.program rest)

module _ (c : Purpose) (before : Option Listed) (all : List (List ℕ)) (known : Option Listed) (rest : List (List ℕ)) (j : JudgingPats c before all known rest) where
  pub pats_more : (s : List ℕ) (rest' : List (List ℕ)) (next : Option Listed) → rest ≡ s ∷ rest' → pat_fault c known (pat s) ≡ None → next ≡ option_or known (lists c.program s)
      → JudgingPats c before all next rest'
  pats_more s rest' next e h n = record {
    fault = j.fault ∙ ap (pats_fault c known) e ∙ ap (λ x. option_or x (pats_fault c (option_or known (lists c.program s)) rest')) h ∙ ap (λ x. pats_fault c x rest') (sym n);
    lists_so = j.lists_so ∙ ap (λ x. option_or known (first_listed c.program x)) e ∙ sym (option_or-assoc known (lists c.program s) (first_listed c.program rest')) ∙ ap (λ x. option_or x (first_listed c.program rest')) (sym n);
  }

  pub pats_done : rest ≡ [] → (pats_fault c before all ≡ None) × (known ≡ option_or before (first_listed c.program all))
  pats_done e = (j.fault ∙ ap (pats_fault c known) e, sym (j.lists_so ∙ ap (λ x. option_or known (first_listed c.program x)) e ∙ option_or-none known))

  pub pats_fail : (s : List ℕ) (rest' : List (List ℕ)) (f : NetworkFault) → rest ≡ s ∷ rest' → pat_fault c known (pat s) ≡ Some f → pats_fault c before all ≡ Some f
  pats_fail s rest' f e h = j.fault ∙ ap (pats_fault c known) e ∙ ap (λ x. option_or x (pats_fault c (option_or known (lists c.program s)) rest')) h

-- ---- one packet more

pub pats_off : (r : PatReader) (wanted : Option ℕ) (p : List ℕ) (past : List (List ℕ)) → on 0 p ≡ false → PatsRead r wanted past → PatsRead r wanted (p ∷ past)
pats_off r wanted p past o h = record {
  todo = h.todo;
  assembler = gives_off r.assembler 0 p past h.todo o h.assembler;
  listed_is = h.listed_is ∙ sym (ap (λ x. option_or (listed wanted past) (first_listed wanted x)) (given_off 0 p past o) ∙ option_or-none (listed wanted past));
}

pub pats_clean_off : (c : Purpose) (p : List ℕ) (past : List (List ℕ)) → on 0 p ≡ false → pats_fault c (listed c.program past) (given 0 p past) ≡ None
pats_clean_off c p past o = ap (pats_fault c (listed c.program past)) (given_off 0 p past o)

module _ (c : Purpose) (r : PatReader) (a : Assembler) (p : List ℕ) (past : List (List ℕ)) (h : PatsRead r c.program past) (g : StillGives a 0 (p ∷ past) (given 0 p past)) where
  pub pats_on : (o : Option Listed) → o ≡ option_or r.listed (first_listed c.program (left a)) → PatsRead (record { assembler = a; listed = o }) c.program (p ∷ past)
  pats_on o e = record {
    todo = given 0 p past;
    assembler = g;
    listed_is = e ∙ ap (λ x. option_or x (first_listed c.program (left a))) h.listed_is ∙ ap (λ x. option_or (listed c.program past) (first_listed c.program x)) g.todo_left;
  }

  pub pats_fault_on : (o : Option NetworkFault) → pats_fault c r.listed (left a) ≡ o → pats_fault c (listed c.program past) (given 0 p past) ≡ o
  pats_fault_on o e = sym (ap (λ x. pats_fault c x (left a)) h.listed_is ∙ ap (pats_fault c (listed c.program past)) g.todo_left) ∙ e
