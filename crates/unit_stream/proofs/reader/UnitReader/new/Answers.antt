use Rattle.unit_stream.proofs.reader.UnitReader.new.Goals as goal

pub returns : goal.returns
returns c = c.new.ensures _
