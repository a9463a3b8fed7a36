use Rattle.rankscores.proofs.Areas.{search_finds}
use Rattle.rankscores.proofs.pair.place_of.Goals as goal

pub unwrap-requires : goal.unwrap-requires
unwrap-requires c = search_finds c.args.rows.now c.args.row c.binary_search.result c.requires.ascending c.requires.there c.binary_search.ensures.position
