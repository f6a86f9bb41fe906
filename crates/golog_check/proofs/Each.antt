-- Parts that are read one after another, one part further: for the functions of this crate that read so.
use Rattle.golog_rows.proofs.Each.{each-drop}

pub ruleset laws = (each-drop)
