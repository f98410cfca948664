mod TicksEnd
