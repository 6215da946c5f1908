use Rattle.break_choices.proofs.PictureLemmas.{last_found}
use Rattle.break_choices.proofs.pictures.last_before.Goals as goal

pub returns : goal.returns
returns c = last_found c.args.wanted c.args.at c.args.pictures.now c.last_picture.result c.last_picture.ensures
