use Rattle.exec_control.proofs.controls.control_owed.Goals as goal

pub control_serial-requires-clause-may : goal.control_serial-requires-clause-may
control_serial-requires-clause-may c = c.requires.owes

pub returns-clause-does : goal.returns-clause-does
returns-clause-does c = c.control_serial.ensures.does
