mod Faults
mod LaidOut
