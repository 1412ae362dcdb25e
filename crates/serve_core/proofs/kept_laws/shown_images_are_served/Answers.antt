use Rattle.serve_core.proofs.Shown.{from_held, held_shown, shown_refused, shown_served, shown_stacks}
use Rattle.serve_core.proofs.kept_laws.shown_images_are_served.Goals as goal

pub returns-clause-refused : goal.returns-clause-refused
returns-clause-refused c = shown_refused

pub returns-clause-served : goal.returns-clause-served
returns-clause-served c = shown_served

pub returns-clause-stacks : goal.returns-clause-stacks
returns-clause-stacks c = shown_stacks

pub returns-clause-held : goal.returns-clause-held
returns-clause-held c = from_held

pub returns-clause-shown : goal.returns-clause-shown
returns-clause-shown c = held_shown
