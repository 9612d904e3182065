-- What is wanting where a call of std fails.
use Rattle.std.specs.declared.io.ErrorKind.{ErrorKind}
use Rattle.std.specs.declared.io.ErrorKind.TheVariants.{OutOfMemory}
use Rattle.plc_host.specs.declared.failed.Failed.{Failed}
use Rattle.plc_host.specs.declared.failed.Failed.TheVariants.{Device, Memory}

-- memory, or else a device, which isn't to be had or failed
abbrev pub failed_by : ErrorKind → Failed
failed_by OutOfMemory = Memory
failed_by kind = Device

-- the same, but this of a device of which nothing was known
abbrev pub known_as : Failed → Failed → Failed
known_as known Device = known
known_as known failed = failed
