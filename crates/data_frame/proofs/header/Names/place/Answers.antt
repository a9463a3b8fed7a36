use Rattle.std.proofs.Common.{◌∙◌}
use Rattle.data_frame.proofs.Naming.{known_by, place_is, unknown_by}
use Rattle.data_frame.proofs.header.Names.place.Goals as goal

pub returns-clause-place : goal.returns-clause-place
returns-clause-place c =
    c.get_index_of.ensures.index ∙ place_is c.args.name.now c.self.inside.places.keys c.args.self.now (c.self.invariant ∙ c.self.view_is)

pub returns-clause-known : goal.returns-clause-known
returns-clause-known c =
    known_by c.get_index_of.result c.args.name.now c.args.self.now
    (c.get_index_of.ensures.index ∙ place_is c.args.name.now c.self.inside.places.keys c.args.self.now (c.self.invariant ∙ c.self.view_is))

pub returns-clause-unknown : goal.returns-clause-unknown
returns-clause-unknown c =
    unknown_by c.get_index_of.result c.args.name.now c.self.inside.places.keys c.args.self.now (c.self.invariant ∙ c.self.view_is) c.get_index_of.ensures.found
