mod Minute
