mod Losing
