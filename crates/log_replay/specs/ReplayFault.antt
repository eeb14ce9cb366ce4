-- Faults of a log that is read, as faults of a replay.
use Rattle.file_laws.specs.declared.log_fault.LogFault.{LogFault}
use Rattle.file_laws.specs.declared.log_fault.LogFault.TheVariants as log
use Rattle.log_replay.specs.declared.replay_fault.ReplayFault.{ReplayFault}
use Rattle.log_replay.specs.declared.replay_fault.ReplayFault.TheVariants.{Log}

-- reading never finds that a host has the log
abbrev pub fault_of_reading : LogFault → ReplayFault
fault_of_reading log.InUse = Log log.OutOfMemory
fault_of_reading fault = Log fault
