use Rattle.break_choices.proofs.PictureLemmas.{first_found}
use Rattle.break_choices.proofs.pictures.first_from.Goals as goal

pub returns : goal.returns
returns c = first_found c.args.wanted c.args.at c.args.pictures.now c.first_picture.result c.first_picture.ensures
