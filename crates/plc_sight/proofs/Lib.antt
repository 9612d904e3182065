mod Staying
