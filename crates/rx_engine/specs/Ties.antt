-- How what an engine keeps is tied. No public clause cites this module.
use Rattle.rx_engine.specs.declared.engine.Engine.TheInside.{Inside}
use Rattle.rx_engine.specs.States.{State, IsTied}

abbrev pub state_of : Inside → State
state_of a = record { book = a.book; parts = a.parts; wishes = a.wishes }

abbrev pub IsTiedInside : Inside → Type 0
IsTiedInside a = IsTied (state_of a)
