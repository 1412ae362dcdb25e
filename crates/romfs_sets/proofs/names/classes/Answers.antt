use Rattle.romfs_sets.proofs.names.classes.Goals as goal

pub classes_in_order-requires-clause-named : goal.classes_in_order-requires-clause-named
classes_in_order-requires-clause-named g c = (c.requires.named.0, c.sorted-named.ensures c.requires.named.0 c.args.count c.requires.named.1)

pub returns-then-not-has_alike : goal.returns-then-not-has_alike
returns-then-not-has_alike g c = λ name have.
    c.has_alike.ensures c.if-not-has_alike.true name c.args.count
    (rw c.deref.ensures.value (c.sorted-named.ensures name c.args.count have))

pub returns : goal.returns
returns g c = λ name have. c.in_ok-classes_in_order.ensures name (c.sorted-named.ensures name c.args.count have)
