mod Noted
mod Printed
