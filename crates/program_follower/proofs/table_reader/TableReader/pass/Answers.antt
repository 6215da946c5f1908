use Rattle.std.proofs.Common.{ap, ◌∙◌, sym}
use Rattle.std.specs.Prelude.{option_map}
use Rattle.program_follower.specs.declared.purpose.Listed.{Listed}
use Rattle.program_follower.specs.Standing.{or_zero}
use Rattle.program_follower.proofs.PatLemmas.{pats_off}
use Rattle.program_follower.proofs.ElsewhereLemmas.{listed_same}
use Rattle.program_follower.proofs.table_reader.TableReader.pass.Goals as goal

pub returns-clause-reads : goal.returns-clause-reads
returns-clause-reads c = λ k p past e h.
    record {
      purpose = h.purpose;
      pats = pats_off c.args.self.now.pats k.program p past e.pat h.pats;
      maps = c.pass.ensures.reads k p past e h.maps;
      cue_pid = h.cue_pid;
      map_pid = h.map_pid ∙ ap (λ o. or_zero (option_map (λ (l : Listed). l.pid) o)) (sym (listed_same k p past e));
    }
